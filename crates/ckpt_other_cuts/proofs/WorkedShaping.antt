-- The worked example meets the premises of the law of restores in other shapes.
use Rattle.ckpt_other_cuts.proofs.Names.{common_steps, ◌≡◌, ◌∙◌, ◌+◌, ◌*◌, ◌/◌, ◌%◌, ◌==◌, ◌&&◌, ◌<◌, inl, inr, ℕ, zero, suc, if◌then◌else◌, ◌∷◌, refl, sym, ap, subst, arith, [], filter}
use Rattle.ckpt_other_cuts.proofs.Names.{both_ways, div-mul-add, mod-mul-add, mod_below, SubtaskId, IsIn, same_subtask, same_subtask-Decides, Channel, Draws, Move, Takes, emitted, on_output}
use Rattle.ckpt_other_cuts.proofs.Names.{state, By, IsJob, IsMoveOf, IsPrefix, IsRun, Run, of, put_on, run_of, starts, states_after, taken_off, written, run_is_history, IsBegun, IsForOwn}
use Rattle.ckpt_other_cuts.proofs.Names.{IsOfKey, IsRoutedByKey, IsShapeOf, channel_over, emitted_of, recorded, taken_of, by, is_out_of, job, keys, line, part_of, run, spread, stage}
use Rattle.ckpt_other_cuts.proofs.Names.{subtask, sum_on, sums}

-- the tasks and channels of the two jobs

pub each_key : (P : SubtaskId → Type 0) → P (subtask 0 0) → P (subtask 1 0) → P (subtask 1 1) → (k : SubtaskId) → IsIn k keys.tasks → P k
each_key P source zeroth first k (inl e) = subst P (sym e) source
each_key P source zeroth first k (inr (inl e)) = subst P (sym e) zeroth
each_key P source zeroth first k (inr (inr (inl e))) = subst P (sym e) first
each_key P source zeroth first k (inr (inr (inr none))) = absurd none

pub each_line : (P : Channel → Type 0) → P (line 0) → P (line 1) → (c : Channel) → IsIn c keys.channels → P c
each_line P zeroth first c (inl e) = subst P (sym e) zeroth
each_line P zeroth first c (inr (inl e)) = subst P (sym e) first
each_line P zeroth first c (inr (inr none)) = absurd none

pub one_line : (P : Channel → Type 0) → P (line 0) → (c : Channel) → IsIn c job.channels → P c
one_line P it c (inl e) = subst P (sym e) it
one_line P it c (inr none) = absurd none

not_source : {X : Type 0} → subtask 1 0 ≡ subtask 0 0 → X
not_source e = absurd (both_ways (same_subtask (subtask 1 0) (subtask 0 0)) refl ((same_subtask-Decides (subtask 1 0) (subtask 0 0)).1 e))

not_sums : {X : Type 0} → subtask 0 0 ≡ subtask 1 0 → X
not_sums e = not_source (sym e)

-- the two sums in one number

low : (a b : ℕ) → a < 10 → (a + 10 * b) % 10 ≡ a
low a b p = let e : a + 10 * b ≡ b * 10 + a = omega arith in ap (λ n. n % 10) e ∙ mod-mul-add b 10 a p

high : (a b : ℕ) → a < 10 → (a + 10 * b) / 10 ≡ b
high a b p = let e : a + 10 * b ≡ b * 10 + a = omega arith in ap (λ n. n / 10) e ∙ div-mul-add b 10 a p

digit : (n : ℕ) → n % 10 < 10
digit n = mod_below n 10 (omega arith)

-- what the subtask has for each key once it took an element with this remainder

both_of : ℕ → ℕ → ℕ → ℕ
both_of r s x = if r == 0 then (s % 10 + x) % 10 + 10 * (s / 10) else s % 10 + 10 * ((s / 10 + x) % 10)

sum_of_0 : (r s x : ℕ) → r < 2 → both_of r s x % 10 ≡ state (sums 0) (s % 10) (of (subtask 1 0) (record { task = subtask 1 r; what = Takes 0 x } ∷ []))
unfolding both_of
sum_of_0 zero s x p = low ((s % 10 + x) % 10) (s / 10) (digit (s % 10 + x))
sum_of_0 (suc zero) s x p = low (s % 10) ((s / 10 + x) % 10) (digit s)
sum_of_0 (suc (suc r)) s x p = absurd (omega arith)

sum_of_1 : (r s x : ℕ) → r < 2 → both_of r s x / 10 ≡ state (sums 1) (s / 10) (of (subtask 1 1) (record { task = subtask 1 r; what = Takes 0 x } ∷ []))
unfolding both_of
sum_of_1 zero s x p = high ((s % 10 + x) % 10) (s / 10) (digit (s % 10 + x))
sum_of_1 (suc zero) s x p = high (s % 10) ((s / 10 + x) % 10) (digit s)
sum_of_1 (suc (suc r)) s x p = absurd (omega arith)

-- an element goes to the output of the key that it tells

tells : (key o y d : ℕ) → y % 10 ≡ d → filter (is_out_of (record { task = subtask 1 key; output = o })) (y ∷ []) ≡ (if (d == key) && (o == 0) then y ∷ [] else [])
tells key o y d e = ap (λ n. if (n == key) && (o == 0) then y ∷ [] else []) e

out_of_0 : (r s x o : ℕ) → r < 2
    → filter (is_out_of (record { task = subtask 1 0; output = o })) (on_output 0 (if r == 0 then sum_on 0 (s % 10) (Takes 0 x) else sum_on 1 (s / 10) (Takes 0 x)))
    ≡ on_output o (emitted (sums 0) (s % 10) (of (subtask 1 0) (record { task = subtask 1 r; what = Takes 0 x } ∷ [])))
out_of_0 zero s x o p = grind (arith, common_steps)
out_of_0 (suc zero) s x o p = grind (arith, common_steps)
out_of_0 (suc (suc r)) s x o p = grind (arith, common_steps)

out_of_1 : (r s x o : ℕ) → r < 2
    → filter (is_out_of (record { task = subtask 1 1; output = o })) (on_output 0 (if r == 0 then sum_on 0 (s % 10) (Takes 0 x) else sum_on 1 (s / 10) (Takes 0 x)))
    ≡ on_output o (emitted (sums 1) (s / 10) (of (subtask 1 1) (record { task = subtask 1 r; what = Takes 0 x } ∷ [])))
out_of_1 zero s x o p = grind (arith, common_steps)
out_of_1 (suc zero) s x o p = grind (arith, common_steps)
out_of_1 (suc (suc r)) s x o p = grind (arith, common_steps)

takes_0 : (r x : ℕ) → r < 2 → (if r == 0 then x ∷ [] else []) ≡ taken_off (record { task = subtask 1 r; what = Takes 0 x } ∷ []) (line 0)
takes_0 zero x p = refl
takes_0 (suc zero) x p = refl
takes_0 (suc (suc r)) x p = absurd (omega arith)

takes_1 : (r x : ℕ) → r < 2 → (if r == 1 then x ∷ [] else []) ≡ taken_off (record { task = subtask 1 r; what = Takes 0 x } ∷ []) (line 1)
takes_1 zero x p = refl
takes_1 (suc zero) x p = refl
takes_1 (suc (suc r)) x p = absurd (omega arith)

is_key_move : (r x : ℕ) → r < 2 → IsMoveOf keys (subtask 1 r) (Takes 0 x)
is_key_move zero x p = (inr (inl refl), (line 0, inl refl, refl, refl))
is_key_move (suc zero) x p = (inr (inr (inl refl)), (line 1, inr (inl refl), refl, refl))
is_key_move (suc (suc r)) x p = absurd (omega arith)

-- the moves

draws : (s : ℕ) → IsOfKey keys job spread (subtask 0 0) s Draws
draws s = grind (arith, common_steps)

takes : (s x : ℕ) → IsOfKey keys job spread (subtask 1 0) s (Takes 0 x)
unfolding both_of
takes s x =
    let r : ℕ = x % 2 in
    let p : r < 2 = mod_below x 2 (omega arith) in record {
      is_move = is_key_move r x p;
      changes =
          let Changes : SubtaskId → Type 0 = λ k. spread.owner k ≡ subtask 1 0
          → part_of k (both_of r s x) ≡ states_after keys (λ key. part_of key s) (record { task = subtask 1 r; what = Takes 0 x } ∷ []) k in
          each_key Changes (λ own. not_sums own) (λ own. sum_of_0 r s x p) (λ own. sum_of_1 r s x p);
      emits = λ sink has own.
          let Emits : SubtaskId → Type 0 = λ k. spread.owner k ≡ subtask 1 0
          → emitted_of spread (record { task = k; output = sink.output }) ((job.program (subtask 1 0)).emits s (Takes 0 x))
          ≡ written keys (λ key. part_of key s) (record { task = subtask 1 r; what = Takes 0 x } ∷ []) (record { task = k; output = sink.output }) in
          each_key Emits (λ own. not_sums own) (λ own. out_of_0 r s x sink.output p) (λ own. out_of_1 r s x sink.output p) sink.task has own;
      takes =
          let Of : Channel → Type 0 = λ c. spread.owner c.receiver ≡ subtask 1 0 → taken_of spread c (Takes 0 x) ≡ taken_off (record { task = subtask 1 r; what = Takes 0 x } ∷ []) c in
          each_line Of (λ own. takes_0 r x p) (λ own. takes_1 r x p);
    }

is_source : (t : SubtaskId) → IsIn t job.sources → subtask 0 0 ≡ t
is_source t (inl e) = sym e
is_source t (inr none) = absurd none

of_keys : (t : SubtaskId) (s : ℕ) (move : Move) → IsMoveOf job t move → IsForOwn spread t s move → IsOfKey keys job spread t s move
of_keys t s Draws is own = let Of : SubtaskId → Type 0 = λ k. IsOfKey keys job spread k s Draws in subst Of (is_source t is.1) (draws s)
of_keys t s (Takes i x) is own =
    let c : Channel = is.1.0 in
    let Ends : Channel → Type 0 = λ it. IsOfKey keys job spread it.receiver s (Takes it.input x) in
    let at : IsOfKey keys job spread c.receiver s (Takes c.input x) = one_line Ends (takes s x) c is.1.1 in
    let Of : SubtaskId → Type 0 = λ k. IsOfKey keys job spread k s (Takes c.input x) in
    let From : ℕ → Type 0 = λ j. IsOfKey keys job spread t s (Takes j x) in
    subst From is.1.3 (subst Of is.1.2 at)

pub worked_is_shape : IsShapeOf keys job spread
worked_is_shape = record {
  tasks = let Of : SubtaskId → Type 0 = λ k. IsIn (spread.owner k) job.tasks in each_key Of (inl refl) (inr (inl refl)) (inr (inl refl));
  channels = let Of : Channel → Type 0 = λ c. IsIn (channel_over spread c) job.channels in each_line Of (inl refl) (inl refl);
  of_keys = of_keys;
}

-- the stage

pub worked_is_job : IsJob keys
worked_is_job = grind (arith, common_steps)

pub is_job : IsJob job
is_job = grind (arith, common_steps)

pub is_drawn : IsMoveOf job (subtask 0 0) Draws
is_drawn = (inl refl, inl refl)

is_taken : (x : ℕ) → IsMoveOf job (subtask 1 0) (Takes 0 x)
is_taken x = (inr (inl refl), (line 0, inl refl, refl, refl))

on_the_way : (step : By Move) (before : Run) → IsPrefix (taken_off (step ∷ before) (line 0)) (put_on job (starts job) before (line 0))
    → (c : Channel) → IsIn c job.channels → IsPrefix (taken_off (step ∷ before) c) (put_on job (starts job) before c)
on_the_way step before is = let Of : Channel → Type 0 = λ c. IsPrefix (taken_off (step ∷ before) c) (put_on job (starts job) before c) in one_line Of is

is_run_3 : IsRun job (starts job) (by 1 (Takes 0 1) ∷ by 0 Draws ∷ by 0 Draws ∷ [])
is_run_3 = (
  ((tt, is_drawn, on_the_way (by 0 Draws) [] ([], refl)), is_drawn, on_the_way (by 0 Draws) (by 0 Draws ∷ []) (1 ∷ [], refl)),
  is_taken 1,
  on_the_way (by 1 (Takes 0 1)) (by 0 Draws ∷ by 0 Draws ∷ []) (2 ∷ [], refl),
)

is_run : IsRun job (starts job) run
is_run =
    let three : Run = by 1 (Takes 0 1) ∷ by 0 Draws ∷ by 0 Draws ∷ [] in
    let four : Run = by 0 Draws ∷ three in
    let five : Run = by 1 (Takes 0 2) ∷ four in (
      ((is_run_3, is_drawn, on_the_way (by 0 Draws) three (2 ∷ [], refl)), is_taken 2, on_the_way (by 1 (Takes 0 2)) four (3 ∷ [], refl)),
      is_taken 3,
      on_the_way (by 1 (Takes 0 3)) five ([], refl),
    )

is_routed : IsRoutedByKey job spread (starts job) run
is_routed = ((((((tt, refl), refl), refl), refl), refl), refl)

pub worked_begins : IsBegun keys (recorded keys []) stage
worked_begins = record {
  is_job = is_job;
  is_shape = worked_is_shape;
  is_given = let Given : SubtaskId → Type 0 = λ k. part_of k (starts job (spread.owner k)) ≡ starts keys k in each_key Given refl refl refl;
  is_history = (run_is_history job (starts job) run is_job is_run).0;
}

pub worked_is_routed : IsRoutedByKey job spread stage.from (run_of job stage.history)
worked_is_routed = grind (arith, common_steps)
