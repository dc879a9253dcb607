-- The loop invariants of `Parts::load_all`.
use Rattle.ckpt_core.proofs.{◌≡◌, map, take, record_in, AreTied, opening_of, state_of, AreSoundRecords}
use Rattle.ckpt_core.proofs.parts.Parts.load_all.Given as goal

abbrev pub invariant-loop-saved : goal.invariant-loop-saved
invariant-loop-saved l = record {
  state : state_of l.self ≡ record (state_of l.fn.self) { records = map record_in (take l.saved-index l.records) };
  tied : AreTied l.self;
  none : l.meter ≡ l.fn.meter;
  noted : l.self.ended.items ≡ l.fn.self.ended.items;
  sound : AreSoundRecords (opening_of l.fn.self.opened) l.fn.self.next (map record_in (take l.saved-index l.records));
}
