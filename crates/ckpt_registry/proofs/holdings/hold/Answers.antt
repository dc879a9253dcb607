-- Answers the goals of `hold`.
use Rattle.ckpt_registry.proofs.{Acknowledged, AreRising, BelongsAt, Bool, Extends, Extends-grown, Holding, IsIn, IsIn-append_left, IsIn-append_right, LiesAt, List, Part, Subtask, Use, [], ap}
use Rattle.ckpt_registry.proofs.{apart_at, apart_from, append-nil, count_by, deque_with_item, drop, get_or, ltb, number, numbers_in_order, parts_in, refl, rising_insert, rising_same, set_split}
use Rattle.ckpt_registry.proofs.{split_at, subst, suc, sym, take, take-append-drop, triples, uses-grown, uses_by, uses_in, ℕ, ⊎_elim, ◌++◌, ◌+◌, ◌∙◌, ◌∷◌, ◌≡◌, ◌⊎◌}
use Rattle.ckpt_ids.proofs.OrderedLemmas.{only_one}
use Rattle.ckpt_registry.proofs.holdings.hold.Goals as goal

-- a record that holds parts gets more
module _ (m : Acknowledged) (id place : ℕ) (h : Holding) (v : List Part) (more : List Part) (a : AreRising m.items) (found : LiesAt number id m.items place) (is : h ≡ get_or m.items place h)
    (grown : v ≡ h.parts ++ more) where
  abbrev new : Holding
  new = record { id = h.id; parts = v }

  abbrev after : Acknowledged
  after = deque_with_item m place new

  own : h.id ≡ id
  own = ap number is ∙ found.1 h

  had : m.items ≡ take place m.items ++ ((h ∷ []) ++ drop (suc place) m.items)
  had = split_at place m.items h found.0 is

  has : after.items ≡ take place m.items ++ new ∷ drop (suc place) m.items
  has = set_split m.items place new found.0

  all : (x : Holding) → IsIn x (h ∷ []) → x.id ≡ id
  all x k = ap number (only_one x h k) ∙ own

  parts : new.parts ≡ parts_in (h ∷ []) ++ more
  parts = rw append-nil grown

  pushed_ordered : AreRising after.items
  pushed_ordered = rw has (rising_same place m.items h found.0 is new a refl)

  pushed_extends : Extends m after
  pushed_extends = Extends-grown m after id (take place m.items) (h ∷ []) _ new more had has own all parts (λ x side e. apart_at place m.items h found.0 is a x side (e ∙ sym own))

  pushed_uses : (p : Use → Bool) → count_by p (uses_in after.items) ≡ count_by p (uses_in m.items) + count_by p (uses_by id more)
  pushed_uses = uses-grown m after id (take place m.items) (h ∷ []) _ new more had has own all parts

pub returns-in_ok-push-in-Ok-clause-ordered : goal.returns-in_ok-push-in-Ok-clause-ordered
returns-in_ok-push-in-Ok-clause-ordered c =
    pushed_ordered c.args.acknowledged.now c.args.id c.in-Ok.place c.index_mut.result.now _ _ c.requires.ordered c.in-Ok.ensures.found c.index_mut.ensures.value c.in_ok-push-in-Ok.ensures.ok

pub returns-in_ok-push-in-Ok-clause-extends : goal.returns-in_ok-push-in-Ok-clause-extends
returns-in_ok-push-in-Ok-clause-extends c =
    pushed_extends c.args.acknowledged.now c.args.id c.in-Ok.place c.index_mut.result.now _ _ c.requires.ordered c.in-Ok.ensures.found c.index_mut.ensures.value c.in_ok-push-in-Ok.ensures.ok

pub returns-in_ok-push-in-Ok-clause-ok : goal.returns-in_ok-push-in-Ok-clause-ok
returns-in_ok-push-in-Ok-clause-ok c = λ p.
    rw (← append-nil (triples c.args.id (Subtask c.args.subtask) (c.args.fresh.now ++ c.args.reused.now)))
    (pushed_uses c.args.acknowledged.now c.args.id c.in-Ok.place c.index_mut.result.now _ _ c.requires.ordered c.in-Ok.ensures.found c.index_mut.ensures.value c.in_ok-push-in-Ok.ensures.ok p)

-- a record that holds nothing gets its first part
module _ (m n : Acknowledged) (place : ℕ) (new : Holding) (more : List Part) (belongs : BelongsAt ltb number new.id m.items place) (has : n.items ≡ take place m.items ++ new ∷ drop place m.items)
    (is : new.parts ≡ more) where
  apart : (x : Holding) → IsIn x (take place m.items) ⊎ IsIn x (drop place m.items) → x.id ≡ new.id → ⊥
  apart x side = apart_from number numbers_in_order new.id m.items place belongs x
      (subst (IsIn x) (take-append-drop place m.items)
      (⊎_elim (λ k. IsIn-append_left x (take place m.items) (drop place m.items) k) (λ k. IsIn-append_right x (take place m.items) (drop place m.items) k) side))

  inserted_extends : Extends m n
  inserted_extends = Extends-grown m n new.id (take place m.items) [] (drop place m.items) new more (sym (take-append-drop place m.items)) has refl (λ x k. absurd k) is apart

  inserted_uses : (p : Use → Bool) → count_by p (uses_in n.items) ≡ count_by p (uses_in m.items) + count_by p (uses_by new.id more)
  inserted_uses = uses-grown m n new.id (take place m.items) [] (drop place m.items) new more (sym (take-append-drop place m.items)) has refl (λ x k. absurd k) is

pub returns-in_ok-add-in-Err-clause-ordered : goal.returns-in_ok-add-in-Err-clause-ordered
returns-in_ok-add-in-Err-clause-ordered c =
    let new : Holding = record { id = c.args.id; parts = c.replace-parts.result } in
    rw c.in_ok-add-in-Err.ensures.ok (rising_insert new c.args.acknowledged.now.items c.in-Err.place c.requires.ordered c.in-Err.ensures.absent)

pub returns-in_ok-add-in-Err-clause-extends : goal.returns-in_ok-add-in-Err-clause-extends
returns-in_ok-add-in-Err-clause-extends c =
    let new : Holding = record { id = c.args.id; parts = c.replace-parts.result } in
    inserted_extends c.args.acknowledged.now c.add.new.acknowledged c.in-Err.place new _ c.in-Err.ensures.absent c.in_ok-add-in-Err.ensures.ok refl

pub returns-in_ok-add-in-Err-clause-ok : goal.returns-in_ok-add-in-Err-clause-ok
returns-in_ok-add-in-Err-clause-ok c = λ p.
    let part : Part = record { subtask = c.args.subtask; fresh = c.args.fresh.now; reused = c.args.reused.now } in
    let new : Holding = record { id = c.args.id; parts = c.replace-parts.result } in
    let one : new.parts ≡ part ∷ [] = rw (c.replace-parts.ensures.value, c.in_ok-push-in-Err.ensures.ok, c.requires.spare) in
    rw (← append-nil (triples c.args.id (Subtask c.args.subtask) (c.args.fresh.now ++ c.args.reused.now)))
    (inserted_uses c.args.acknowledged.now c.add.new.acknowledged c.in-Err.place new (part ∷ []) c.in-Err.ensures.absent c.in_ok-add-in-Err.ensures.ok one p)
