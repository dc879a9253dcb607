-- What a fault leaves of a turn.
use Rattle.ckpt_task.proofs.Names.{common_steps, arith, ◌≡◌, ℕ, ◌<◌, List, ◌∷◌, ◌++◌, ◌∙◌, refl, sym, ap, subst, false, true, Ok, Err, inl, inr, drop, length, slice_index_or, [], OnErr}
use Rattle.ckpt_task.proofs.Names.{Result, both_ways, append_assoc, at_drop_more, Emitted, Program, Turn, Transaction, Deed, Took, Sent, SentBarrier, Acknowledged, Declined, Outcome, IsPart}
use Rattle.ckpt_task.proofs.Names.{IsUndone, IsUnfinished, after_sends, came_in, deeds_after, taken_in, Around, IsStopped, is_held}
use Rattle.ckpt_task.proofs.Doing.{came_sends, taken_sends}
use Rattle.ckpt_task.specs.declared.turn.Outcome.TheVariants as outcome

-- elements that are sent, the newest first

abbrev front : List Emitted → List Deed
front [] = []
front (e ∷ es) = front es ++ Sent e.output e.element ∷ []

sends_front : (es : List Emitted) (l : List Deed) → after_sends es l ≡ front es ++ l
sends_front [] l = refl
sends_front (e ∷ es) l = sends_front es (Sent e.output e.element ∷ l) ∙ sym (append_assoc (front es) (Sent e.output e.element ∷ []) l)

-- these are left to send
sends_left : (es : List Emitted) (now all : List Deed) → after_sends es now ≡ all → IsUnfinished now all
sends_left es now all e = record {
  left = front es;
  is_left = sym e ∙ sends_front es now;
  came = sym (came_sends es now) ∙ ap came_in e;
  took = λ j. sym (taken_sends j es now) ∙ ap (taken_in j) e;
}

pub send_stopped : (i : ℕ) (ones : List Emitted) (one : Emitted) (o x : ℕ) (mid now all : List Deed) → one ≡ slice_index_or ones i one → i < length ones → o ≡ one.output → x ≡ one.element
    → after_sends (drop i ones) mid ≡ all → IsUndone (Sent o x) mid now → IsUnfinished now all
send_stopped i ones one o x mid now all is less output element e (inl same) = grind (arith, common_steps, drop, sends_left)
send_stopped i ones one o x mid now all is less output element e (inr sent) = grind (arith, common_steps, at_drop_more, drop, sends_left)

-- what is done after an outcome

rest_of : (o : Outcome) (before : List Deed) → is_held o ≡ false → IsUnfinished (Took ∷ before) (deeds_after o before)
rest_of (outcome.Moved ones) before e = sends_left ones.items (Took ∷ before) (after_sends ones.items (Took ∷ before)) refl
rest_of outcome.Held before e = absurd (both_ways true e refl)
rest_of outcome.Nothing before e = record { left = []; is_left = refl; came = refl; took = λ j. refl }
rest_of (outcome.Cut n) before e = record { left = Acknowledged n ∷ SentBarrier n ∷ []; is_left = refl; came = refl; took = λ j. refl }
rest_of (outcome.Unsaved n) before e = record { left = Declined n ∷ SentBarrier n ∷ []; is_left = refl; came = refl; took = λ j. refl }
rest_of (outcome.Abandoned n) before e = record { left = Declined n ∷ []; is_left = refl; came = refl; took = λ j. refl }

-- the take of what came was stopped
pub take_stopped : (o : Outcome) (before now : List Deed) → is_held o ≡ false → IsUndone Took before now → IsPart before now (deeds_after o before)
take_stopped o before now e (inl same) = inl same
take_stopped o before now e (inr took) = inr (subst (λ (l : List Deed). IsUnfinished l (deeds_after o before)) (sym took) (rest_of o before e))

pub as_outcome : (o other : Outcome) (before now : List Deed) → o ≡ other → IsPart before now (deeds_after other before) → IsPart before now (deeds_after o before)
as_outcome o other before now is part = subst (λ (one : Outcome). IsPart before now (deeds_after one before)) (sym is) part

-- a deed behind these was stopped
deed_stopped : (deed : Deed) (before mid now done all : List Deed) → mid ≡ done → IsUnfinished done all → IsUnfinished (deed ∷ done) all → IsUndone deed mid now → IsPart before now all
deed_stopped deed before mid now done all is first second (inl same) = inr (subst (λ (l : List Deed). IsUnfinished l all) (sym (same ∙ is)) first)
deed_stopped deed before mid now done all is first second (inr did) = inr (subst (λ (l : List Deed). IsUnfinished l all) (sym (did ∙ ap (λ (l : List Deed). deed ∷ l) is)) second)

none_left : (all : List Deed) → IsUnfinished all all
none_left all = record { left = []; is_left = refl; came = refl; took = λ j. refl }

word_left : (n : ℕ) (before : List Deed) → IsUnfinished (SentBarrier n ∷ Took ∷ before) (deeds_after (outcome.Cut n) before)
word_left n before = record { left = Acknowledged n ∷ []; is_left = refl; came = refl; took = λ j. refl }

no_word_left : (n : ℕ) (before : List Deed) → IsUnfinished (SentBarrier n ∷ Took ∷ before) (deeds_after (outcome.Unsaved n) before)
no_word_left n before = record { left = Declined n ∷ []; is_left = refl; came = refl; took = λ j. refl }

pub cut_barrier_stopped : (n k : ℕ) (before mid now : List Deed) → k ≡ n → mid ≡ Took ∷ before → IsUndone (SentBarrier k) mid now → IsPart before now (deeds_after (outcome.Cut n) before)
cut_barrier_stopped n k before mid now same is undone =
    deed_stopped (SentBarrier n) before mid now (Took ∷ before) (deeds_after (outcome.Cut n) before) is (rest_of (outcome.Cut n) before refl) (word_left n before)
    (subst (λ (m : ℕ). IsUndone (SentBarrier m) mid now) same undone)

pub cut_stopped : (n k : ℕ) (before mid last now : List Deed) → k ≡ n → mid ≡ Took ∷ before → last ≡ SentBarrier k ∷ mid → IsUndone (Acknowledged n) last now → IsPart before now (deeds_after (outcome.Cut n) before)
cut_stopped n k before mid last now same is sent undone = grind (arith, common_steps, deed_stopped, none_left, word_left)

pub unsaved_barrier_stopped : (n : ℕ) (before mid now : List Deed) → mid ≡ Took ∷ before → IsUndone (SentBarrier n) mid now → IsPart before now (deeds_after (outcome.Unsaved n) before)
unsaved_barrier_stopped n before mid now is undone =
    deed_stopped (SentBarrier n) before mid now (Took ∷ before) (deeds_after (outcome.Unsaved n) before) is (rest_of (outcome.Unsaved n) before refl) (no_word_left n before) undone

pub unsaved_stopped : (n : ℕ) (before mid last now : List Deed) → mid ≡ Took ∷ before → last ≡ SentBarrier n ∷ mid → IsUndone (Declined n) last now → IsPart before now (deeds_after (outcome.Unsaved n) before)
unsaved_stopped n before mid last now is sent undone = grind (arith, common_steps, deed_stopped, no_word_left, none_left)

pub abandoned_stopped : (n : ℕ) (before mid now : List Deed) → mid ≡ Took ∷ before → IsUndone (Declined n) mid now → IsPart before now (deeds_after (outcome.Abandoned n) before)
abandoned_stopped n before mid now is undone =
    let all : List Deed = deeds_after (outcome.Abandoned n) before in
    deed_stopped (Declined n) before mid now (Took ∷ before) all is (rest_of (outcome.Abandoned n) before refl) (none_left all) undone

-- what holds of an error holds of it too
pub on_err : {X E : Type 0} (P Q : Type 0) (r : Result X E) → (P → Q) → OnErr r P → OnErr r Q
on_err P Q (Ok x) f h = h
on_err P Q (Err e) f h = f h

-- a turn that was stopped, with the same held back

pub stopped_as : (p : Program) (first second : Turn → List Transaction) (x z : Around) → ((turn : Turn) → first turn ≡ second turn) → IsStopped p first x z → IsStopped p second x z
stopped_as p first second x z same (inl none) = grind (arith, common_steps)
stopped_as p first second x z same (inr begun) = grind (arith, common_steps)
