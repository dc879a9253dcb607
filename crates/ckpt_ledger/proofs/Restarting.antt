-- A restore publishes as the word of a completion does.
use Rattle.std.proofs.lemmas.Grind.{common_steps}
use Rattle.std.proofs.Common.{arith, ◌≡◌, ℕ, ◌≤◌, true, ◌||◌, List, ◌∷◌, ◌++◌, refl, sym, ap, ◌∙◌, append_assoc, append-nil, subst, inl, inr, []}
use Rattle.ckpt_align.specs.Alignment.{Alignment, opened}
use Rattle.ckpt_align.specs.Histories.{Action, after, cut_by, elements, has_cut, has_ended, sent, sent_by}
use Rattle.ckpt_ids.specs.Ordered.{IsIn}
use Rattle.ckpt_once.specs.Jobs.{AreAttempts, History, Job, States, network, restored}
use Rattle.ckpt_once.specs.Sinks.{AreLast, Sink, contents, published, published_in, sealed, up_to}
use Rattle.ckpt_once.proofs.ActionLemmas.{before_stays}
use Rattle.ckpt_once.proofs.Sealing.{published_up_to, sealed_up_to}
use Rattle.ckpt_ledger.specs.Laws.{AreMomentsOf}
use Rattle.ckpt_ledger.specs.Ledgers.{Acts, Completes, Entry, HaveBeenCut, Held, Moment, Told, acts, after_entries, after_entry, all_published, completed, entries, nothing, publishes, told_of}
use Rattle.ckpt_ledger.specs.Restarts.{AreTold, AttemptTold, LostComesAgain, PublishesOverRestarts, attempts, entries_in, published_with}
use Rattle.ckpt_ledger.proofs.Publishing.{published_by}
use Rattle.ckpt_ledger.proofs.Timely.{timely}

-- moments one behind the other

pub acts-append : (first second : List Moment) → acts (first ++ second) ≡ acts first ++ acts second
acts-append [] second = refl
acts-append (Acts action ∷ first) second = ap (λ (l : List Action). action ∷ l) (acts-append first second)
acts-append (Told m ∷ first) second = acts-append first second

pub completed-append : (first second : List Moment) → completed (first ++ second) ≡ completed first ++ completed second
completed-append [] second = refl
completed-append (Acts action ∷ first) second = completed-append first second
completed-append (Told m ∷ first) second = ap (λ (l : List ℕ). m ∷ l) (completed-append first second)

told_first : (m : ℕ) (first second : List Moment) → IsIn m (completed first) → IsIn m (completed (first ++ second))
told_first m [] second has = elim has [ ]
told_first m (Acts action ∷ first) second has = told_first m first second has
told_first m (Told n ∷ first) second (inl same) = inl same
told_first m (Told n ∷ first) second (inr has) = inr (told_first m first second has)

first_been : (inputs : ℕ) (done : List Action) (first second : List Moment) → HaveBeenCut inputs done (first ++ second) → HaveBeenCut inputs done first
first_been inputs done [] second have = tt
first_been inputs done (Acts action ∷ first) second have = first_been inputs (done ++ action ∷ []) first second have
first_been inputs done (Told m ∷ first) second have = (have.0, first_been inputs done first second have.1)

-- the moments, and then the word that a record was completed

abbrev pub with_word : ℕ → List Moment → List Moment
with_word n moments = moments ++ Told n ∷ []

pub entries_with : (o n : ℕ) (a : Alignment) (moments : List Moment) → entries o a (with_word n moments) ≡ entries o a moments ++ Completes n ∷ []
entries_with o n a [] = refl
entries_with o n a (Acts action ∷ moments) =
    let first : List Entry = told_of (cut_by a action) (elements (sent_by o a action)) in
    ap (λ (l : List Entry). first ++ l) (entries_with o n (after a action) moments) ∙ sym (append_assoc first (entries o (after a action) moments) (Completes n ∷ []))
entries_with o n a (Told m ∷ moments) = ap (λ (l : List Entry). Completes m ∷ l) (entries_with o n a moments)

pub been_cut : (inputs n : ℕ) (done : List Action) (moments : List Moment) → HaveBeenCut inputs done moments → has_cut n (opened inputs) (done ++ acts moments) ≡ true → HaveBeenCut inputs done (with_word n moments)
been_cut inputs n done [] have cut = grind (arith, common_steps)
been_cut inputs n done (Acts action ∷ moments) have cut = grind (arith, common_steps, been_cut inputs n (done ++ action ∷ []) moments have)
been_cut inputs n done (Told m ∷ moments) have cut = grind (arith, common_steps, been_cut inputs n done moments have.1 cut)

pub published-append : (h : Held) (es fs : List Entry) → all_published h (es ++ fs) ≡ all_published h es ++ all_published (after_entries h es) fs
published-append h [] fs = refl
published-append h (e ∷ es) fs =
    let first : List ℕ = contents (publishes h e) in
    ap (λ (l : List ℕ). first ++ l) (published-append (after_entry h e) es fs)
    ∙ sym (append_assoc first (all_published (after_entry h e) es) (all_published (after_entries (after_entry h e) es) fs))

-- What is published with a restore is what was sent before the cut of its record.
abbrev sent_before : ℕ → ℕ → ℕ → List Action → List ℕ
sent_before o inputs n xs = contents (up_to n (sealed o (opened inputs) [] xs))

with_restore : (o inputs n : ℕ) (moments : List Moment) → HaveBeenCut inputs [] moments → has_cut n (opened inputs) (acts moments) ≡ true → ((m : ℕ) → IsIn m (completed moments) → m ≤ n)
    → published_with n (entries o (opened inputs) moments) ≡ sent_before o inputs n (acts moments)
with_restore o inputs n moments have cut below =
    let a : Alignment = opened inputs in
    let es : List Entry = entries o a moments in
    let last : List ℕ = contents (up_to n (after_entries nothing es).waiting) in
    ap (λ (l : List ℕ). all_published nothing es ++ l) (sym (append-nil last))
    ∙ sym (published-append nothing es (Completes n ∷ []))
    ∙ ap (all_published nothing) (sym (entries_with o n a moments))
    ∙ published_by o a (with_word n moments) (timely inputs [] (with_word n moments) (been_cut inputs n [] moments have cut)) nothing
    ∙ ap (λ (l : List ℕ). published l (sealed o a [] (acts (with_word n moments)))) (completed-append moments (Told n ∷ []))
    ∙ ap (λ (l : List Action). published (completed moments ++ n ∷ []) (sealed o a [] l)) (acts-append moments (Told n ∷ []) ∙ append-nil (acts moments))
    ∙ published_up_to n (completed moments) (sealed o a [] (acts moments)) below

-- what comes behind the cut changes nothing of it
before_is : (o inputs n : ℕ) (xs ys : List Action) → has_cut n (opened inputs) xs ≡ true → has_cut n (opened inputs) (xs ++ ys) ≡ true → sent_before o inputs n xs ≡ sent_before o inputs n (xs ++ ys)
before_is o inputs n xs ys cut later =
    let a : Alignment = opened inputs in
    sealed_up_to o n inputs [] [] xs cut
    ∙ ap (λ (l : List Action). elements (sent o a l)) (sym (before_stays n a xs ys (ap (λ b. b || has_ended xs) cut)))
    ∙ sym (sealed_up_to o n inputs [] [] (xs ++ ys) later)

-- one attempt

pub published_then : (job : Job) (from : States) (h : History) (sink : Sink) (n : ℕ) (early late : List Moment) → AreMomentsOf job from h sink (early ++ late)
    → has_cut n (opened (job.inputs sink.task)) (acts early) ≡ true → has_cut n (opened (job.inputs sink.task)) ((network job from h).task sink.task).actions ≡ true
    → ((m : ℕ) → IsIn m (completed (early ++ late)) → m ≤ n)
    → published_with n (entries_in job sink early) ≡ published_in job from h sink (completed (early ++ late) ++ n ∷ [])
published_then job from h sink n early late is cut later below =
    let o : ℕ = sink.output in
    let inputs : ℕ = job.inputs sink.task in
    let a : Alignment = opened inputs in
    let same : acts early ++ acts late ≡ ((network job from h).task sink.task).actions = sym (acts-append early late) ∙ is.0 in
    with_restore o inputs n early (first_been inputs [] early late is.1) cut (λ m has. below m (told_first m early late has))
    ∙ before_is o inputs n (acts early) (acts late) cut (ap (has_cut n a) same ∙ later)
    ∙ ap (sent_before o inputs n) same
    ∙ sym (published_up_to n (completed (early ++ late)) (sealed o a [] ((network job from h).task sink.task).actions) below)

-- the records that it was told are those that had been completed
told_below : (job : Job) (sink : Sink) (one : AttemptTold) (ones : List AttemptTold) → AreLast (attempts (one ∷ ones)) → AreTold job sink (one ∷ ones)
    → (m : ℕ) → IsIn m (completed (one.early ++ one.late)) → m ≤ one.attempt.record_id
told_below job sink one ones last told m has = last.1 m (subst Of told.2 has)
  where
    Of : List ℕ → Type 0
    Of ms = IsIn m ms

one_attempt : (job : Job) (sink : Sink) (one : AttemptTold) (ones : List AttemptTold) → AreAttempts job (attempts (one ∷ ones)) → AreLast (attempts (one ∷ ones)) → IsIn sink.task job.tasks
    → AreTold job sink (one ∷ ones)
    → published_with one.attempt.record_id (entries_in job sink one.early) ≡ published_in job (restored job (attempts ones)) one.attempt.history sink (one.attempt.earlier ++ one.attempt.record_id ∷ [])
one_attempt job sink one ones are last has told =
    let from : States = restored job (attempts ones) in
    let n : ℕ = one.attempt.record_id in
    published_then job from one.attempt.history sink n one.early one.late told.1 told.3 (are.2 sink.task has) (told_below job sink one ones last told)
    ∙ ap (λ (l : List ℕ). published_in job from one.attempt.history sink (l ++ n ∷ [])) told.2

pub publishes_over_restarts : (job : Job) (sink : Sink) (ones : List AttemptTold) → PublishesOverRestarts job sink ones
publishes_over_restarts job sink [] are last has told = grind (arith, common_steps)
publishes_over_restarts job sink (one ∷ ones) are last has told = grind (arith, common_steps, one_attempt, publishes_over_restarts job sink ones are.0 last.0 has told.0)

pub lost_comes_again : (job : Job) (sink : Sink) (one : AttemptTold) (ones : List AttemptTold) → LostComesAgain job sink one ones
lost_comes_again job sink one ones are last has told =
    let n : ℕ = one.attempt.record_id in
    let all : List Moment = one.early ++ one.late in
    let inputs : ℕ = job.inputs sink.task in
    let from : States = restored job (attempts ones) in
    let h : History = one.attempt.history in
    let below : (m : ℕ) → IsIn m (completed all) → m ≤ n = told_below job sink one ones last told in
    let later : has_cut n (opened inputs) (acts all) ≡ true = ap (has_cut n (opened inputs)) told.1.0 ∙ are.2 sink.task has in
    let left : List ℕ = contents (up_to n (after_entries nothing (entries_in job sink all)).waiting) in (
      left,
      published_then job from h sink n one.early one.late told.1 told.3 (are.2 sink.task has) below
          ∙ published_up_to n (completed all) (sealed sink.output (opened inputs) [] ((network job from h).task sink.task).actions) below
          ∙ ap (sent_before sink.output inputs n) (sym told.1.0)
          ∙ sym (with_restore sink.output inputs n all told.1.1 later below),
    )
