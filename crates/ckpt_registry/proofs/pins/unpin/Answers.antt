-- Answers the goals of `unpin`.
use Rattle.ckpt_registry.proofs.{AreLowered-same, AreLowered-then, List, Pinner, arith, cond, false, get_or, get_or_default, goes, length, own_files, own_of, own_of-le, own_of-more, place_next}
use Rattle.ckpt_registry.proofs.{place_same, sym, take, times, true, walk_within, walked_on, walked_one, walked_out, ℕ, ◌+◌, ◌<◌, ◌∙◌, ◌≡◌}
use Rattle.ckpt_registry.proofs.pins.unpin.Goals as goal
use Rattle.ckpt_registry.proofs.pins.unpin.Goals.{then-contains, else-contains}

-- two reads of one place

is_item : (row : List Pinner) (place : ℕ) (a b : Pinner) → place < length row → a ≡ get_or row place a → b ≡ get_or row place b → a ≡ b
is_item row place a b within at here = at ∙ get_or_default row place a b within ∙ sym here

pub give_up-requires-clause-counted : goal.give_up-requires-clause-counted
give_up-requires-clause-counted c = λ f.
    let owners = c.args.owners.now in
    let old : List Pinner = c.args.pinned.now.items in
    let i = c.loop.counter in
    let one : Pinner = c.index.result.now in
    let below : i < length old = omega (arith, c.args.pinned.now.ok.0) in
    let here : one ≡ get_or old i one = walked_one owners old _ i _ one c.loop.invariant.row c.loop.invariant.place c.index.ensures below in
    let taken : c.remove-one.result ≡ one = is_item _ _ _ one (walk_within owners old _ i _ c.loop.invariant.row c.loop.invariant.place below) c.remove-one.ensures.value c.index.ensures in
    let same : times f (own_files c.remove-one.result.pins) ≡ times f (own_files one.pins) = rw taken in
    let on : cond (goes owners one) (times f (own_files one.pins)) 0 ≡ times f (own_files one.pins) = rw (sym c.contains.ensures.value ∙ c.if-contains.true) in
    omega (arith, same, on, c.loop.invariant.lowered.lowered f, c.requires.counted f, own_of-more f owners old i one below here, own_of-le f owners (i + 1) old)

pub loop-preserved : goal.loop-preserved
loop-preserved c =
    let owners = c.args.owners.now in
    let old : List Pinner = c.args.pinned.now.items in
    let i = c.loop.counter in
    let one : Pinner = c.index.result.now in
    let row = c.loop.invariant.row in
    let at = c.loop.invariant.place in
    let below : i < length old = omega (arith, c.args.pinned.now.ok.0) in
    let more : (f : ℕ) → times f (own_of owners (take (i + 1) old)) ≡ times f (own_of owners (take i old)) + cond (goes owners one) (times f (own_files one.pins)) 0 = λ f.
    own_of-more f owners old i one below (walked_one owners old _ i _ one row at c.index.ensures below) in
    elim c.if-contains.branch [
      | then-contains w ↦
          let e : goes owners one ≡ true = sym c.contains.ensures.value ∙ w.if-contains.true in
          let taken : w.remove-one.result ≡ one = is_item _ _ _ one (walk_within owners old _ i _ row at below) w.remove-one.ensures.value c.index.ensures in
          record {
            row = rw w.pinned-is (w.remove-one.ensures.by_index.2 ∙ walked_out owners old _ i _ one row at c.index.ensures below e);
            place = w.place-is ∙ place_same owners old _ i _ one row at c.index.ensures below e;
            lowered = rw (w.counts-is, w.released-is) (AreLowered-then _ _ _ _ _ _ _ _ _ (λ f. rw (more f, e, taken)) c.loop.invariant.lowered w.give_up.ensures.lowered);
            no_files = rw w.room-is w.give_up.ensures.no_files;
          }
      | else-contains w ↦
          let e : goes owners one ≡ false = sym c.contains.ensures.value ∙ w.if-contains.false in
          record {
            row = rw w.pinned-is (walked_on owners old _ i _ one row at c.index.ensures below e);
            place = w.place-is ∙ place_next owners old _ i _ one row at c.index.ensures below e;
            lowered = rw (w.counts-is, w.released-is) (AreLowered-same _ _ _ _ _ _ (λ f. rw (more f, e) (omega arith)) c.loop.invariant.lowered);
            no_files = rw w.room-is c.loop.invariant.no_files;
          }
    ]
