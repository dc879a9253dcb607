-- What sinks publish over any number of failures.
use Rattle.ckpt_once.proofs.Names.{◌≡◌, ℕ, ◌≤◌, Bool, true, false, ◌||◌, if◌then◌else◌, List, ◌∷◌, ◌++◌, ◌∙◌, refl, sym, ap, arith, [], common_steps, append-nil, append_assoc, IsIn}
use Rattle.ckpt_once.proofs.Names.{Alignment, opened, Action, Reads, GivesUp, Sends, Ends, after, cut_by, elements, has_cut, has_ended, is_number, sent, Channel, Attempt, HaveCut, History}
use Rattle.ckpt_once.proofs.Names.{IsPrefix, Job, Run, States, before_cuts, restored, run_of, run_of_attempts, starts, SealedByThen, Sink, Transaction, contents, published, published_before}
use Rattle.ckpt_once.proofs.Names.{published_in, sealed, up_to, written, PublishedIsPrefix, PublishedOnce, SubtaskId, same_subtask}
use Rattle.ckpt_once.proofs.Sealing.{all_sealed, published_begins, published_up_to, sealed_up_to}
use Rattle.ckpt_once.proofs.{Running.acts_of, Running.one_turn_by, Running.put_before_is, Running.put_on_is, ActionLemmas.before_stays, ActionLemmas.stopped, Joining.is_restored}
use Rattle.ckpt_once.proofs.Joining.{put-join}

-- a sink's output as that of a channel; its other end does not count
abbrev channel_of : Sink → Channel
channel_of sink = record { sender = sink.task; output = sink.output; receiver = sink.task; input = 0 }

pub published_attempt : (n : ℕ) (job : Job) (from : States) (h : History) (sink : Sink) (earlier : List ℕ) → HaveCut n job from h → IsIn sink.task job.tasks → ((m : ℕ) → IsIn m earlier → m ≤ n)
    → published_in job from h sink (earlier ++ n ∷ []) ≡ written job from (run_of job (before_cuts n job from h)) sink
published_attempt n job from h sink earlier cut has below =
    let xs : List Action = acts_of job from h sink.task in
    published_up_to n earlier (sealed sink.output (opened (job.inputs sink.task)) [] xs) below
    ∙ sealed_up_to sink.output n (job.inputs sink.task) [] [] xs (cut sink.task has)
    ∙ sym (put_before_is n job from h (channel_of sink))

pub published_once : (job : Job) (attempts : List Attempt) (sink : Sink) → PublishedOnce job attempts sink
published_once job [] sink is k last has = refl
published_once job (attempt ∷ attempts) sink is k last has =
    let from : States = restored job attempts in
    let first : Run = run_of_attempts job attempts in
    let second : Run = run_of job (before_cuts attempt.record_id job from attempt.history) in
    let before = is_restored job attempts is k.0 in
    ap (λ l. l ++ published_in job from attempt.history sink (attempt.earlier ++ attempt.record_id ∷ [])) (published_once job attempts sink is k.0 last.0 has)
    ∙ ap (λ l. written job (starts job) first sink ++ l) (published_attempt attempt.record_id job from attempt.history sink attempt.earlier k.2 has last.1)
    ∙ ap (λ f. written job (starts job) first sink ++ written job f second sink) before.states
    ∙ sym (put-join job (starts job) second first (channel_of sink))

pub published_now : (job : Job) (from : States) (h : History) (sink : Sink) (completed : List ℕ) → IsPrefix (published_in job from h sink completed) (written job from (run_of job h) sink)
published_now job from h sink completed =
    let a : Alignment = opened (job.inputs sink.task) in
    let xs : List Action = acts_of job from h sink.task in
    let ones : List Transaction = sealed sink.output a [] xs in
    let part = published_begins completed ones in
    let all = all_sealed sink.output a [] xs in (
      part.0 ++ all.0,
      put_on_is job from h (channel_of sink)
          ∙ all.1
          ∙ ap (λ l. l ++ all.0) part.1
          ∙ append_assoc (published completed ones) part.0 all.0,
    )

pub published_is_prefix : (job : Job) (attempts : List Attempt) (sink : Sink) (h : History) (completed : List ℕ) → PublishedIsPrefix job attempts sink h completed
published_is_prefix job attempts sink h completed is k last has =
    let from : States = restored job attempts in
    let first : Run = run_of_attempts job attempts in
    let before = is_restored job attempts is k in
    let now = published_now job from h sink completed in (
      now.0,
      put-join job (starts job) (run_of job h) first (channel_of sink)
          ∙ ap (λ f. written job (starts job) first sink ++ written job f (run_of job h) sink) (sym before.states)
          ∙ ap (λ l. written job (starts job) first sink ++ l) now.1
          ∙ ap (λ l. l ++ (published_in job from h sink completed ++ now.0)) (sym (published_once job attempts sink is k last has))
          ∙ sym (append_assoc (published_before job sink attempts) (published_in job from h sink completed) now.0),
    )

-- transactions in time

cut_stays_by : (b c d : Bool) → (c ≡ true → d ≡ true) → (if b then true else c) ≡ true → (if b then true else d) ≡ true
cut_stays_by true c d h e = refl
cut_stays_by false c d h e = h e

pub cut_stays : (n : ℕ) (a : Alignment) (xs ys : List Action) → has_cut n a xs ≡ true → has_cut n a (xs ++ ys) ≡ true
cut_stays n a [] ys e = grind (arith, common_steps)
cut_stays n a (Ends ∷ xs) ys e = grind (arith, common_steps)
cut_stays n a (Reads i item ∷ xs) ys e =
    let b : Alignment = after a (Reads i item) in
    cut_stays_by (is_number n (cut_by a (Reads i item))) (has_cut n b xs) (has_cut n b (xs ++ ys)) (cut_stays n b xs ys) e
cut_stays n a (GivesUp id ∷ xs) ys e =
    let b : Alignment = after a (GivesUp id) in
    cut_stays_by (is_number n (cut_by a (GivesUp id))) (has_cut n b xs) (has_cut n b (xs ++ ys)) (cut_stays n b xs ys) e
cut_stays n a (Sends o x ∷ xs) ys e =
    let b : Alignment = after a (Sends o x) in
    cut_stays_by (is_number n (cut_by a (Sends o x))) (has_cut n b xs) (has_cut n b (xs ++ ys)) (cut_stays n b xs ys) e

acts_more : (job : Job) (from : States) (later h : History) (t : SubtaskId) → (more : List Action) × (acts_of job from (later ++ h) t ≡ acts_of job from h t ++ more)
acts_more job from [] h t = ([], sym (append-nil (acts_of job from h t)))
acts_more job from (e ∷ later) h t =
    let one = one_turn_by job from e (later ++ h) t (same_subtask e.task t) refl in
    let before = acts_more job from later h t in
    (before.0 ++ one.0, one.1 ∙ ap (λ l. l ++ one.0) before.1 ∙ append_assoc (acts_of job from h t) before.0 one.0)

pub sealed_by_then : (n : ℕ) (job : Job) (from : States) (h later : History) (sink : Sink) → SealedByThen n job from h later sink
sealed_by_then n job from h later sink cut =
    let o : ℕ = sink.output in
    let inputs : ℕ = job.inputs sink.task in
    let a : Alignment = opened inputs in
    let xs : List Action = acts_of job from h sink.task in
    let on = acts_more job from later h sink.task in
    let stop : stopped n a xs ≡ true = ap (λ b. b || has_ended xs) cut in
    ap (λ l. contents (up_to n (sealed o a [] l))) on.1
    ∙ sealed_up_to o n inputs [] [] (xs ++ on.0) (cut_stays n a xs on.0 cut)
    ∙ ap (λ l. elements (sent o a l)) (before_stays n a xs on.0 stop)
    ∙ sym (sealed_up_to o n inputs [] [] xs cut)
