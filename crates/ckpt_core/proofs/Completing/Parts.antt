-- What the completion of a checkpoint makes of the parts, step by step.
use Rattle.ckpt_core.proofs.Names.{◌≡◌, ℕ, ◌+◌, ◌≤◌, List, [], ◌∷◌, ◌++◌, length, sym, ap, ◌∙◌, arith, Some, None, length-append, length-map, length-filter, count_by-le-length, Record, FailureCount}
use Rattle.ckpt_core.proofs.Names.{Moments, Stored, past_retained, Parts, number_in, surplus, earlier, with_checkpoint, handed_after, paused, left_pending, checkpoint_completed, common_steps}
use Rattle.ckpt_core.specs.Inside.Completing.{superseded_ids}

pub checkpoint_parts : (p k h : Parts) (done : Record) (gone : List ℕ) (pending : List Record) (failures : FailureCount) (clock : Moments) → k ≡ with_checkpoint p done k → k.ended.items ≡ gone →
    pending ≡ left_pending k.ended.items p.pending → h ≡ handed_after k done k.ended.items pending h → failures ≡ record h.failures { number = 0 } →
    clock ≡ record h.clock { completed = Some h.clock.latest } → record h { failures = failures; clock = clock } ≡ checkpoint_completed p done gone h
checkpoint_parts p k h done gone pending failures clock is_k noted is_pending is_h is_failures is_clock =
    let l : Parts = with_checkpoint p done k in
    let all : h ≡ handed_after l done gone (left_pending gone p.pending) h = is_h ∙ ap (λ ids. handed_after k done ids pending h) noted ∙ ap (λ x. handed_after x done gone pending h) is_k
    ∙ ap (λ ps. handed_after l done gone ps h) (is_pending ∙ ap (λ ids. left_pending ids p.pending) noted) in
    ap (λ f. record h { failures = f; clock = clock }) is_failures ∙ ap (λ m. record h { failures = record h.failures { number = 0 }; clock = m }) is_clock ∙ ap paused all
    ∙ ap (λ n. paused (handed_after (record l { store = record l.store { spare = n } }) done gone (left_pending gone p.pending) h)) (sym (ap (λ x. x.store.spare) all))

-- how many numbers are noted

few_surplus : (store : Stored) (done : Record) → length (surplus store done) ≤ 1
few_surplus store done = elim (past_retained store.retained (store.checkpoints ++ done ∷ [])) as (λ o. length (number_in o) ≤ 1) [ None ↦ omega arith | Some id ↦ omega arith ]

pub few_earlier : (id : ℕ) (pending : List Record) → length (earlier id pending) ≤ length pending
few_earlier id pending = grind (arith, common_steps, count_by-le-length, length-filter, length-map)

pub few_superseded : (pending : List Record) (store : Stored) (done : Record) → length (superseded_ids pending store done) ≤ length pending + 1
few_superseded pending store done = omega (arith, few_surplus store done, few_earlier done.id pending, length-append (earlier done.id pending) (surplus store done))
