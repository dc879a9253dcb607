-- A record that is loaded: what is tested of it, and the state that has it.
use Rattle.ckpt_core.proofs.Names.{◌≡◌, ℕ, ◌<◌, Bool, true, false, not, ◌&&◌, leb, List, length, refl, sym, ap, subst, ◌∙◌, arith, Option, Some, None, count_by, find, is_some, option_map, both_ways}
use Rattle.ckpt_core.proofs.Names.{and_left, and_right, leb-false, IsIn, Record, Use, missing, count_by-none, count_by-all, missing_from_full, IsPending, pending_record, limit, Saved, Parts, Live}
use Rattle.ckpt_core.proofs.Names.{record_in, records_of, IsMade, with_done, records_in, state_of, HasRoom, NamesEachOnce, is_pending_checkpoint, IsRecord, live_of, Opening, is_checkpoint}
use Rattle.ckpt_core.proofs.Names.{is_done_checkpoint, IsIn-from_find, fails-from_find, is_checkpoint-kind, is_savepoint-kind, common_steps}
use Rattle.ckpt_core.proofs.Reading.Live.{is_from}
use Rattle.ckpt_core.proofs.Records.Lookups.{AreGroups, count_by-records_of}

-- its number

none_mapped : (o : Option Record) → option_map live_of o ≡ None → o ≡ None
none_mapped None e = refl
none_mapped (Some r) e = absurd (let f : ◌≡◌ {A = Option Live} (Some (live_of r)) None = e in (cc))

-- if none is found from a number on, all are below it
pub above_all : (id : ℕ) (rs : List Record) (found : Option Live) → found ≡ option_map live_of (find (is_from id) rs) → found ≡ None → (s : Record) → IsIn s rs → s.id < id
above_all id rs found e none s h = leb-false id s.id (fails-from_find (is_from id) s rs (none_mapped (find (is_from id) rs) (sym e ∙ none)) h)

some_mapped : (id : ℕ) (rs : List Record) (o : Option Record) (live : Live) → find (is_from id) rs ≡ o → Some live ≡ option_map live_of o → (s : Record) × IsIn s rs × (is_from id s ≡ true)
some_mapped id rs None live e f = absurd (let g : ◌≡◌ {A = Option Live} (Some live) None = f in (cc))
some_mapped id rs (Some r) live e f = let k = IsIn-from_find (is_from id) r rs e in (r, k.0, k.1)

-- if one is found, not all are
pub not_above_all : (id : ℕ) (rs : List Record) (found : Option Live) (live : Live) → found ≡ option_map live_of (find (is_from id) rs) → found ≡ Some live → ((s : Record) → IsIn s rs → s.id < id) →
    ⊥
not_above_all id rs found live e some above = let k = some_mapped id rs (find (is_from id) rs) live refl (sym some ∙ e) in both_ways (is_from id k.0) (le-not id k.0.id (above k.0 k.1)) k.2
  where
    le-not : (a b : ℕ) → b < a → leb a b ≡ false
    le-not a b lt = grind arith

-- how many there are

pub done_checkpoints-groups : (us : List Use) (pending checkpoints savepoints : List Record) → AreGroups pending checkpoints savepoints →
    count_by is_done_checkpoint (records_of us pending checkpoints savepoints) ≡ length checkpoints
done_checkpoints-groups us pending checkpoints savepoints groups =
    let p : Record → Bool = is_done_checkpoint in let none_p : count_by p pending ≡ 0 = count_by-none p pending (λ r h. and_left r.done (is_checkpoint r) (groups.not_done r h)) in
    let none_s : count_by p savepoints ≡ 0 = count_by-none p savepoints (λ r h. and_right r.done (is_checkpoint r) (is_savepoint-kind r (groups.savepoints_done r h).1)) in
    let all_c : count_by p checkpoints ≡ length checkpoints = count_by-all p checkpoints (λ r h. ap (λ b. b && is_checkpoint r) (groups.checkpoints_done r h).0
    ∙ is_checkpoint-kind r (groups.checkpoints_done r h).1) in count_by-records_of p us pending checkpoints savepoints (λ r. refl) ∙ omega arith

-- its acknowledgements

made_pending : (s : Saved) (made : Record) → IsMade made s → IsPending made → IsPending (pending_record s.metadata.id s.metadata.kind s.metadata.shape s.metadata.started s.metadata.acks)
made_pending s made e pending = subst IsPending e pending

pub pending_is_record : (s : Saved) (made : Record) → IsMade made s → IsPending made → 0 < missing made → NamesEachOnce (record_in s) → s.metadata.done ≡ false → IsRecord (record_in s)
pending_is_record s made e pending lacks once not_done = let m = s.metadata in let p = made_pending s made e pending in record {
  shape = p.has_shape;
  acks_in_order = p.in_order;
  acks_of_subtasks = p.expected;
  files = once.files;
  pins = once.pins;
  pending = λ yes. (rw e at lacks);
  full = λ is_done. absurd (both_ways m.done not_done is_done);
  unpinned = λ is_done. absurd (both_ways m.done not_done is_done);
}

-- the state

pub state_done : (p q : Parts) (rs : List Record) → q ≡ with_done p q → records_in q ≡ rs → state_of q ≡ record (state_of p) { records = rs }
unfolding state_of
state_done p q rs rest e = ap state_of rest ∙ ap (λ xs. record (state_of p) { records = xs }) (ap records_in (sym rest) ∙ e)

pub state_pending : (p q : Parts) (rs : List Record) → q ≡ record p { pending = q.pending; registry = q.registry; outbox = record p.outbox { spare = q.outbox.spare }; ended = q.ended } →
    records_in q ≡ rs → state_of q ≡ record (state_of p) { records = rs }
unfolding state_of
state_pending p q rs rest e = ap state_of rest ∙ ap (λ xs. record (state_of p) { records = xs }) (ap records_in (sym rest) ∙ e)

pub pending_same : (s : Saved) (x : Record) → IsMade x s → s.metadata.done ≡ false → record x { pins = s.pins } ≡ record_in s
pending_same s x made not_done = grind (arith, common_steps)

-- a record that lacks an acknowledgement is not full
pub not_full : (s : Saved) (made : Record) → IsMade made s → 0 < missing made → s.metadata.done ≡ true → IsRecord (record_in s) → ⊥
not_full s made e lacks is_done ir = grind (arith, common_steps, missing_from_full)

-- the limits on how many there are

pub room_savepoint : (o : Opening) (rs : List Record) (r : Record) → is_checkpoint r ≡ false → count_by (λ s. not (is_checkpoint s)) rs < 1000 → HasRoom o rs r
room_savepoint o rs r its fewer = grind (arith, common_steps)

pub room_done : (o : Opening) (rs : List Record) (r : Record) → is_checkpoint r ≡ true → r.done ≡ true → count_by is_pending_checkpoint rs ≡ 0 → count_by is_done_checkpoint rs < o.config.retained →
    HasRoom o rs r
room_done o rs r its is_done none fewer = grind (arith, common_steps)

pub room_pending : (o : Opening) (rs : List Record) (r : Record) → is_checkpoint r ≡ true → r.done ≡ false → count_by is_pending_checkpoint rs < limit o.config → HasRoom o rs r
room_pending o rs r its not_done fewer = grind (arith, common_steps)

pub some_live : (o : Option Live) → is_some o ≡ true → (l : Live) × (o ≡ Some l)
some_live None e = absurd (cc)
some_live (Some l) e = (l, refl)

pub no_live : (o : Option Live) → is_some o ≡ false → o ≡ None
no_live None e = refl
no_live (Some l) e = absurd (cc)
