-- The balance of files over every list of calls, and what became of each.
use Rattle.ckpt_model.proofs.Names.{common_steps, ◌≡◌, ℕ, ◌+◌, ◌≤◌, true, false, List, [], ◌∷◌, ◌++◌, refl, subst, ap, ◌⊎◌, inl, inr, ⊎_elim, arith, cases_Bool, both_ways, ltb-false, le-ltb, append-nil, append_assoc}
use Rattle.ckpt_model.proofs.Names.{Call, IsIn, uses, count, is_present, IsIn-append_left, IsIn-append_right, IsIn-append_cases, not_in-from_test, State, Opening, IsUnused, in_outbox, opened, step, replay}
use Rattle.ckpt_model.proofs.Names.{IsSound, CanOpen, AreCalls, along, registered_by, handed_by, deleted_by, new_by, NoneAgain, Balance, Handed, Accounted, Outgoing, NoneLeaks, UsedNoMore, Outbox}
use Rattle.ckpt_model.proofs.Names.{one_if, times, times-from_IsIn, IsIn-from_times, times-append, times_at_most_once}
use Rattle.std.specs.Prelude.{◌↔◌}
use Rattle.ckpt_model.proofs.Records.{outbox_of}
use Rattle.ckpt_model.proofs.Histories.Balances.{times_none}
use Rattle.ckpt_model.proofs.Histories.StepBalances.{step_settled, newly_present}
use Rattle.ckpt_model.proofs.Soundness.Calls.{step_keeps}
use Rattle.ckpt_model.proofs.Soundness.Histories.{opening_is_sound, replay_is_sound, replay_keeps}

-- From any sound state.

-- what is registered or present is handed out or present after, as often
pub balance_from : (m : State) (calls : List Call) (f : ℕ) → IsSound m → AreCalls calls
    → times f (along registered_by m calls) + one_if (is_present (uses m.records) f) ≡ times f (along handed_by m calls) + one_if (is_present (uses (replay m calls).records) f)
balance_from m [] f s a = refl
balance_from m (call ∷ calls) f s a =
    let n : State = (step m call).0 in
    let here : times f (registered_by m call) + one_if (is_present (uses m.records) f) ≡ times f (handed_by m call) + one_if (is_present (uses n.records) f) = (step_settled m call s).even f in
    grind (arith, common_steps, step_keeps, times-append, balance_from n calls f) steps 1000000

-- what is handed out or in the outbox is deleted or in the outbox after, as often
pub flow_from : (m : State) (calls : List Call) (f : ℕ) → IsSound m → AreCalls calls
    → times f (along handed_by m calls) + times f (m.waiting ++ m.taken) ≡ times f (along deleted_by m calls) + times f ((replay m calls).waiting ++ (replay m calls).taken)
flow_from m [] f s a = refl
flow_from m (call ∷ calls) f s a =
    let n : State = (step m call).0 in
    let k : State = replay n calls in
    let here : times f (handed_by m call) + times f (m.waiting ++ m.taken) ≡ times f (deleted_by m call) + times f (n.waiting ++ n.taken) = (step_settled m call s).flows f in
    let rest : times f (along handed_by n calls) + times f (n.waiting ++ n.taken) ≡ times f (along deleted_by n calls) + times f (k.waiting ++ k.taken) = flow_from n calls f (step_keeps m call a.0 s) a.1 in
    omega (arith, here, rest, times-append f (handed_by m call) (along handed_by n calls), times-append f (deleted_by m call) (along deleted_by n calls))

-- what no record uses is not present
pub absent-from_unused : (m : State) (f : ℕ) → IsUnused m f → is_present (uses m.records) f ≡ false
absent-from_unused m f e = le-ltb 0 (count (uses m.records) f) (omega arith)

-- and the other way round
pub unused-from_absent : (m : State) (f : ℕ) → is_present (uses m.records) f ≡ false → IsUnused m f
unused-from_absent m f e = let none : count (uses m.records) f ≤ 0 = ltb-false 0 (count (uses m.records) f) e in omega arith

-- a registered file in no use is in the outbox or was deleted
pub accounted_from : (m : State) (calls : List Call) → IsSound m → AreCalls calls → (f : ℕ) → IsIn f (along registered_by m calls) → IsUnused (replay m calls) f → in_outbox (replay m calls) f ≡ false
    → IsIn f (along deleted_by m calls)
accounted_from m calls s a f h unused out =
    let n : State = replay m calls in
    let nowhere : times f (n.waiting ++ n.taken) ≡ 0 = times_none f (n.waiting ++ n.taken) (not_in-from_test f (n.waiting ++ n.taken) out) in
    let absent_now : one_if (is_present (uses n.records) f) ≡ 0 = ap one_if (absent-from_unused n f unused) in
    IsIn-from_times f (along deleted_by m calls) (omega (
      arith,
      times-from_IsIn f (along registered_by m calls) h,
      balance_from m calls f s a,
      flow_from m calls f s a,
      nowhere,
      absent_now,
    ))

-- no file that was deleted is present, if none is reported as new again
gone_along : (m : State) (calls : List Call) (gone : List ℕ) (f : ℕ) → IsSound m → AreCalls calls → NoneAgain gone m calls → (IsIn f gone → is_present (uses m.records) f ≡ false)
    → IsIn f (gone ++ along deleted_by m calls) → is_present (uses (replay m calls).records) f ≡ false
gone_along m [] gone f s a n before h = before (subst (λ (xs : List ℕ). IsIn f xs) (append-nil gone) h)
gone_along m (call ∷ calls) gone f s a n before h =
    let k : State = (step m call).0 in
    let after : IsIn f (gone ++ deleted_by m call) → is_present (uses k.records) f ≡ false = λ there.
    ⊎_elim
    (λ (e : is_present (uses k.records) f ≡ true). absurd (⊎_elim
    (λ (old : IsIn f gone). ⊎_elim (λ (new : IsIn f (new_by m call)). n.0 f old new) (λ was. both_ways (is_present (uses m.records) f) (before old) was) (newly_present m call f s e))
    (λ (its : IsIn f (deleted_by m call)). both_ways (is_present (uses k.records) f) ((step_settled m call s).gone f its) e)
    (IsIn-append_cases f gone (deleted_by m call) there)))
    (λ e. e)
    (cases_Bool (is_present (uses k.records) f)) in
    gone_along k calls (gone ++ deleted_by m call) f (step_keeps m call a.0 s) a.1 n.1 after (rw (append_assoc gone (deleted_by m call) (along deleted_by k calls)) h)

-- what was handed out is present no more
absent-from_handed : (m : State) (calls : List Call) → IsSound m → AreCalls calls → NoneAgain [] m calls → (f : ℕ) → IsIn f (along handed_by m calls)
    → is_present (uses (replay m calls).records) f ≡ false
absent-from_handed m calls s a none f h =
    let n : State = replay m calls in
    let t : IsSound n = replay_keeps m calls a s in
    ⊎_elim
    (λ (e : is_present (uses n.records) f ≡ true). absurd (⊎_elim
    (λ (k : in_outbox n f ≡ true). both_ways (is_present (uses n.records) f) (t.unused f k) e)
    (λ (k : in_outbox n f ≡ false).
    let nowhere : times f (n.waiting ++ n.taken) ≡ 0 = times_none f (n.waiting ++ n.taken) (not_in-from_test f (n.waiting ++ n.taken) k) in
    let deleted : IsIn f (along deleted_by m calls) = IsIn-from_times f (along deleted_by m calls) (omega (arith, times-from_IsIn f (along handed_by m calls) h, flow_from m calls f s a, nowhere)) in
    both_ways (is_present (uses n.records) f) (gone_along m calls [] f s a none (λ b. absurd b) deleted) e)
    (cases_Bool (in_outbox n f))))
    (λ e. e)
    (cases_Bool (is_present (uses n.records) f))

-- if no deleted file is reported as new again, what was handed out is what was present or registered, and is in no use
pub handed_from : (m : State) (calls : List Call) → IsSound m → AreCalls calls → NoneAgain [] m calls → (f : ℕ)
    → IsIn f (along handed_by m calls) ↔ ((IsIn f (along registered_by m calls) ⊎ (is_present (uses m.records) f ≡ true)) × IsUnused (replay m calls) f)
handed_from m calls s a none f =
    let n : State = replay m calls in (
      λ h.
          let away = absent-from_handed m calls s a none f h in
          let came : IsIn f (along registered_by m calls) ⊎ (is_present (uses m.records) f ≡ true) =
          ⊎_elim (λ (e : is_present (uses m.records) f ≡ true). inr e)
          (λ (e : is_present (uses m.records) f ≡ false).
          let absent_then : one_if (is_present (uses m.records) f) ≡ 0 = ap one_if e in
          inl (IsIn-from_times f (along registered_by m calls) (omega (arith, times-from_IsIn f (along handed_by m calls) h, balance_from m calls f s a, absent_then))))
          (cases_Bool (is_present (uses m.records) f)) in
          (came, unused-from_absent n f away),
      λ k.
          let away : one_if (is_present (uses n.records) f) ≡ 0 = ap one_if (absent-from_unused n f k.1) in
          IsIn-from_times f (along handed_by m calls) (⊎_elim
          (λ (h : IsIn f (along registered_by m calls)). omega (arith, times-from_IsIn f (along registered_by m calls) h, balance_from m calls f s a, away))
          (λ (e : is_present (uses m.records) f ≡ true). let present_then : one_if (is_present (uses m.records) f) ≡ 1 = ap one_if e in omega (arith, present_then, balance_from m calls f s a, away))
          k.0),
    )

-- what was handed out before is among all that was
pub handed_before : (m : State) (before after : List Call) (f : ℕ) → IsIn f (along handed_by m before) → IsIn f (along handed_by m (before ++ after))
handed_before m [] after f h = absurd h
handed_before m (call ∷ before) after f h =
    ⊎_elim
    (λ (k : IsIn f (handed_by m call)). IsIn-append_left f (handed_by m call) (along handed_by (step m call).0 (before ++ after)) k)
    (λ (k : IsIn f (along handed_by (step m call).0 before)).
    IsIn-append_right f (handed_by m call) (along handed_by (step m call).0 (before ++ after)) (handed_before (step m call).0 before after f k))
    (IsIn-append_cases f (handed_by m call) (along handed_by (step m call).0 before) h)

-- each file is in one place at most
pub in_one_place : (m : State) → IsSound m → (f : ℕ) → one_if (is_present (uses m.records) f) + times f (m.waiting ++ m.taken) ≤ 1
in_one_place m s f =
    let b = outbox_of s in
    grind (arith, common_steps, times_none f (m.waiting ++ m.taken), b.unused f, both_ways, times_at_most_once f (m.waiting ++ m.taken) b.apart, cases_Bool) steps 1000000

-- From an opening: the laws.

pub balance : (o : Opening) (calls : List Call) → CanOpen o → AreCalls calls → Balance o calls
balance o calls c a f = omega (arith, balance_from (opened o) calls f (opening_is_sound o c) a)

pub outgoing : (o : Opening) (calls : List Call) → CanOpen o → AreCalls calls → Outgoing o calls
outgoing o calls c a f = omega (arith, flow_from (opened o) calls f (opening_is_sound o c) a)

pub none_leaks : (o : Opening) (calls : List Call) → CanOpen o → AreCalls calls → NoneLeaks o calls
none_leaks o calls c a f = omega (arith, balance o calls c a f, outgoing o calls c a f)

pub accounted : (o : Opening) (calls : List Call) → CanOpen o → AreCalls calls → Accounted o calls
accounted o calls c a = accounted_from (opened o) calls (opening_is_sound o c) a

pub handed : (o : Opening) (calls : List Call) → CanOpen o → AreCalls calls → Handed o calls
handed o calls c a none f =
    let both = handed_from (opened o) calls (opening_is_sound o c) a none f in (
      λ h. let k = both.0 h in (⊎_elim (λ (r : IsIn f (along registered_by (opened o) calls)). r) (λ e. absurd (both_ways false refl e)) k.0, k.1),
      λ k. both.1 (inl k.0, k.1),
    )

pub used_no_more : (o : Opening) (before calls : List Call) → CanOpen o → AreCalls (before ++ calls) → UsedNoMore o before calls
used_no_more o before calls c a none f h = ((handed o (before ++ calls) c a none f).0 (handed_before (opened o) before calls f h)).1

pub outbox : (o : Opening) (calls : List Call) → CanOpen o → AreCalls calls → Outbox o calls
outbox o calls c a = in_one_place (replay (opened o) calls) (replay_is_sound o calls c a)
