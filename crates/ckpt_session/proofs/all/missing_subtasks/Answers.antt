-- Answers the goals of `missing_subtasks`.
use Rattle.ckpt_session.proofs.{◌≡◌, ℕ, ◌+◌, ◌<◌, Bool, true, false, cond, length, get_or, take, List, [], ◌∷◌, ◌++◌, sym, ap, ◌∙◌, arith, append-nil, not, filter, slice_get, Some, filter_more}
use Rattle.ckpt_session.proofs.{SubtaskId, Metadata, subtasks, has_acknowledged}
use Rattle.std.proofs.lemmas.Option.{slice_get-get_or, slice_get_within, get_or_from_slice_get}
use Rattle.ckpt_session.proofs.all.missing_subtasks.Goals as goal
use Rattle.ckpt_session.proofs.all.missing_subtasks.Goals.{in-Some+then-not-has_acknowledged+in_ok-push, in-Some+else-not-has_acknowledged, in_default}

filter_at : {X : Type 0} (p : X → Bool) (xs : List X) (i : ℕ) (x : X) (b : Bool) → slice_get xs i ≡ Some x → p x ≡ b → filter p (take (i + 1) xs) ≡ filter p (take i xs) ++ cond b (x ∷ []) []
filter_at p xs i x b e t =
    let same : get_or xs i x ≡ x = get_or_from_slice_get xs i x x e in
    filter_more p xs i x (slice_get_within xs i x e) ∙ ap (λ y. filter p (take i xs) ++ cond (p y) (y ∷ []) []) same ∙ ap (λ c. filter p (take i xs) ++ cond c (x ∷ []) []) t

kept : {X : Type 0} (p : X → Bool) (xs : List X) (i : ℕ) (x : X) (old new : List X) → slice_get xs i ≡ Some x → p x ≡ true → old ≡ filter p (take i xs) → new ≡ old ++ x ∷ []
    → new ≡ filter p (take (i + 1) xs)
kept p xs i x old new e t before after = after ∙ ap (λ l. l ++ x ∷ []) before ∙ sym (filter_at p xs i x true e t)

passed_over : {X : Type 0} (p : X → Bool) (xs : List X) (i : ℕ) (x : X) (old : List X) → slice_get xs i ≡ Some x → p x ≡ false → old ≡ filter p (take i xs) → old ≡ filter p (take (i + 1) xs)
passed_over p xs i x old e t before = before ∙ sym (append-nil (filter p (take i xs))) ∙ sym (filter_at p xs i x false e t)

abbrev is_missing : Metadata → SubtaskId → Bool
is_missing m s = not (has_acknowledged m s)

pub loop-place-preserved : goal.loop-place-preserved
loop-place-preserved c =
    let m = c.args.metadata.now in let i = c.loop-place.place in
    elim c.match-nth.branch [
      | in-Some+then-not-has_acknowledged+in_ok-push w ↦
          kept (is_missing m) (subtasks m.shape) i w.in-Some.subtask c.loop-place.missing.items c.match-nth.missing.items (sym c.nth.ensures ∙ w.in-Some.is)
          (ap not (sym w.has_acknowledged.ensures ∙ w.if-not-has_acknowledged.true)) c.loop-place.invariant (ap (λ v. v.items) w.missing-is ∙ w.in_ok-push.ensures.items)
      | in-Some+else-not-has_acknowledged w ↦
          ap (λ v. v.items) w.missing-is
          ∙ passed_over (is_missing m) (subtasks m.shape) i w.in-Some.subtask c.loop-place.missing.items (sym c.nth.ensures ∙ w.in-Some.is)
          (ap not (sym w.has_acknowledged.ensures ∙ w.if-not-has_acknowledged.false)) c.loop-place.invariant
      | in_default w ↦
          let within : i < length (subtasks m.shape) = let e : c.size-place-end.result ≡ length (subtasks m.shape) = c.size-place-end.ensures.value in omega arith in
          let zero : SubtaskId = record { vertex = 0; index = 0 } in
          absurd (w.in_default.not-Some (get_or (subtasks m.shape) i zero) (c.nth.ensures ∙ slice_get-get_or (subtasks m.shape) i zero within))
    ]
