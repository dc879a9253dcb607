-- What a completion makes of the records, of their uses, and of how many there are.
use Rattle.ckpt_core.proofs.Names.{◌≡◌, ℕ, ◌+◌, Bool, true, false, not, ◌&&◌, ◌||◌, eqb, List, [], ◌∷◌, ◌++◌, map, length, refl, sym, ap, ◌∙◌, ◌⊎◌, Some, count_by, filter, Done, IsIn, Record, Use}
use Rattle.ckpt_core.proofs.Names.{released, uses, uses_of, IsIn-append_left, IsIn-map, IsIn-from_in_order, filter-all, filter-same, after_end, is_ended, is_owned, pins, with_pins, grouped}
use Rattle.ckpt_core.proofs.Names.{records_of, is_noted, id_before, State, drop, kept, released_by, unpinned, cleared, completed_with, dropped_by, replaced, superseded, count_by-map, count_by-same}
use Rattle.ckpt_core.proofs.Names.{cond_both, common_steps, arith}
use Rattle.ckpt_core.proofs.Completing.Lists.{others}
use Rattle.ckpt_core.proofs.Ending.Drops.{stays, staying}
use Rattle.ckpt_core.proofs.Completing.Finish.{finish_groups, finish_uses, ended_records, still_used}
use Rattle.ckpt_core.proofs.Records.Grouped.{AreApart}
use Rattle.ckpt_core.proofs.Records.Lookups.{count_by-records_of, one_of_number}
use Rattle.ckpt_ids.specs.declared.reply.Reply.TheVariants as reply

-- the record d is the pending record with its number, done and without pins; it is among the done ones after
pub record IsEnding (us : List Use) (pending checkpoints savepoints more_checkpoints more_savepoints : List Record) (r d : Record) : Type 0 where
  pub apart : AreApart (grouped us pending checkpoints savepoints)
  pub more_apart : AreApart (more_checkpoints ++ more_savepoints)
  pub there : IsIn r pending
  pub same : d.id ≡ r.id
  pub acks : r.acks ≡ d.acks
  pub no_pins : d.pins ≡ []
  pub forth : (z : Record) → IsIn z (more_checkpoints ++ more_savepoints) → (z ≡ d) ⊎ IsIn z (checkpoints ++ savepoints)
  pub back : (z : Record) → (z ≡ d) ⊎ IsIn z (checkpoints ++ savepoints) → IsIn z (more_checkpoints ++ more_savepoints)
  pub uses_are : us ≡ uses (records_of us pending checkpoints savepoints)

not_or : (a b : Bool) → not (a || b) ≡ (not a && not b)
not_or true b = refl
not_or false b = refl

-- the uses that stay
after_end_is : (id : ℕ) (gone : List ℕ) (us : List Use) → after_end id gone us ≡ filter (still_used (stays gone) id) us
after_end_is id gone us = filter-same (λ u. not (is_ended id gone u)) (still_used (stays gone) id) us (λ u h. not_or (is_owned gone u) (pins id u))

-- the records that stay
abbrev pub left_groups : List Use → List Record → List Record → List Record → Record → List ℕ → List Record
left_groups us pending more_checkpoints more_savepoints d gone = records_of (after_end d.id gone us) (staying gone (others d.id pending)) (staying gone more_checkpoints)
    (staying gone more_savepoints)

module _ {us : List Use} {pending checkpoints savepoints more_checkpoints more_savepoints : List Record} {r d : Record}
    (e : IsEnding us pending checkpoints savepoints more_checkpoints more_savepoints r d) where
  pub left_records : (gone : List ℕ) → left_groups us pending more_checkpoints more_savepoints d gone ≡ staying gone (replaced (records_of us pending checkpoints savepoints) d)
  left_records gone =
      rw (after_end_is d.id gone us, finish_groups (stays gone) us pending checkpoints savepoints more_checkpoints more_savepoints r d e.apart e.more_apart e.there e.same e.forth e.back)

  same_acks : (q : Record) → IsIn q (records_of us pending checkpoints savepoints) → q.id ≡ d.id → q.acks ≡ d.acks
  same_acks q h same = let all : List Record = grouped us pending checkpoints savepoints in
      let there : IsIn (with_pins us r) all = IsIn-append_left (with_pins us r) (map (with_pins us) pending) (checkpoints ++ savepoints) (IsIn-map (with_pins us) r pending e.there) in
      ap (λ x. x.acks) (one_of_number all e.apart q (with_pins us r) (IsIn-from_in_order id_before q all h) there (same ∙ e.same)) ∙ e.acks

  -- their uses
  pub left_uses : (gone : List ℕ) → after_end d.id gone us ≡ uses (left_groups us pending more_checkpoints more_savepoints d gone)
  left_uses gone = after_end_is d.id gone us ∙ ap (filter (still_used (stays gone) d.id)) e.uses_are ∙ finish_uses (stays gone) (records_of us pending checkpoints savepoints) d same_acks e.no_pins
      ∙ ap uses (sym (left_records gone))

-- as the step has it: rd is d with its pins, a the same before it is done, and rs the records before a was put in

pub record IsCompleting (us : List Use) (pending checkpoints savepoints more_checkpoints more_savepoints rs : List Record) (r d a rd : Record) : Type 0 where
  pub ending : IsEnding us pending checkpoints savepoints more_checkpoints more_savepoints r d
  pub same : a.id ≡ rd.id
  pub its : rd.id ≡ d.id
  pub unpinned : record rd { pins = [] } ≡ d
  pub same_uses : uses_of rd ≡ uses_of a
  pub records_are : records_of us pending checkpoints savepoints ≡ replaced rs a

uses_instead : (rs : List Record) (a rd : Record) → a.id ≡ rd.id → uses_of rd ≡ uses_of a → uses (replaced rs rd) ≡ uses (replaced rs a)
uses_instead [] a rd same e = refl
uses_instead (x ∷ rs) a rd same e = grind (arith, common_steps, uses_instead rs a rd same e)

module _ {us : List Use} {pending checkpoints savepoints more_checkpoints more_savepoints rs : List Record} {r d a rd : Record}
    (c : IsCompleting us pending checkpoints savepoints more_checkpoints more_savepoints rs r d a rd) where
  pub kept_records : (dropped : Record → Bool) (gone : List ℕ) → ((s : Record) → IsIn s (replaced rs rd) → dropped s ≡ is_noted gone s) →
      kept dropped (Some rd.id) (replaced rs rd) ≡ left_groups us pending more_checkpoints more_savepoints d gone
  kept_records dropped gone agree =
      ap (map (unpinned (Some rd.id))) (filter-same (λ s. not (dropped s)) (λ s. stays gone s.id) (replaced rs rd) (λ s h. ap not (agree s h))) ∙ ended_records (stays gone) rs a rd c.same
      ∙ ap (λ x. staying gone (replaced (replaced rs a) x)) c.unpinned ∙ ap (λ xs. staying gone (replaced xs d)) (sym c.records_are) ∙ sym (left_records c.ending gone)

  pub released_files : (dropped : Record → Bool) (gone : List ℕ) → ((s : Record) → IsIn s (replaced rs rd) → dropped s ≡ is_noted gone s) →
      released (uses (replaced rs rd)) (uses (kept dropped (Some rd.id) (replaced rs rd))) ≡ released us (after_end d.id gone us)
  released_files dropped gone agree = rw (kept_records dropped gone agree, ← left_uses c.ending gone, uses_instead rs a rd c.same c.same_uses, ← c.records_are, ← c.ending.uses_are)

  -- how many pass a test that does not look at pins
  pub count_completed : (p : Record → Bool) → ((x : Record) (fs : List ℕ) → p (record x { pins = fs }) ≡ p x) → count_by p (replaced rs rd)
      ≡ count_by p (others d.id pending) + (count_by p more_checkpoints + count_by p more_savepoints)
  count_completed p blind = let all : List Record = replaced rs rd in let end : Record → Record = unpinned (Some rd.id) in
      let as_before : (x : Record) → IsIn x all → p x ≡ p (end x) = λ x h. cond_both (eqb x.id rd.id) (record x { pins = [] }) x (λ y. p x ≡ p y) (λ e. sym (blind x [])) (λ e. refl) in
      let same_kept : kept (λ s. false) (Some rd.id) all ≡ map end all = ap (map end) (filter-all (λ s. true) all (λ s h. refl)) in
      let whole : (xs : List Record) → staying [] xs ≡ xs = λ xs. filter-all (λ s. stays [] s.id) xs (λ s h. refl) in
      count_by-same p (λ x. p (end x)) all as_before ∙ sym (count_by-map p end all) ∙ ap (count_by p) (sym same_kept ∙ kept_records (λ s. false) [] (λ s h. refl))
      ∙ count_by-records_of p (after_end d.id [] us) (staying [] (others d.id pending)) (staying [] more_checkpoints) (staying [] more_savepoints) (λ x. blind x _)
      ∙ rw (whole (others d.id pending), whole more_checkpoints, whole more_savepoints) refl

-- the step
pub completed_is : (m : State) (rd : Record) (left : List Record) (files : List ℕ) (n : ℕ) → kept (superseded m rd) (Some rd.id) m.records ≡ left →
    released_by m (superseded m rd) (Some rd.id) ≡ files → dropped_by m (superseded m rd) ≡ n →
    completed_with m rd ≡ (cleared (record m { records = left; waiting = m.waiting ++ files }) rd, Done (reply.AckCompleted n (length files)))
unfolding completed_with drop
completed_is m rd left files n is_left is_files is_n = grind (arith, common_steps)
