-- Where no task chooses, runs go together.
use Rattle.ckpt_once.proofs.Names.{◌≡◌, ℕ, Bool, true, false, List, ◌∷◌, ◌++◌, ◌∙◌, ◌⊎◌, refl, sym, ap, subst, arith, if◌then◌else◌, Option, Some, None, inl, inr, [], common_steps}
use Rattle.ckpt_once.proofs.Names.{Decides-eqb, append-nil, append_assoc, append_cancel_left, SubtaskId, IsIn, same_subtask, same_subtask-Decides, Channel, Move, Program, Takes, emitted}
use Rattle.ckpt_once.proofs.Names.{from_input, on_output, state, By, IsPrefix, IsRun, Job, Run, States, of, put_on, states_after, taken_off, GoTogether, HasNoChoice, IsPlanned, OneOutput}
use Rattle.ckpt_once.proofs.Names.{Plan}
use Rattle.ckpt_once.proofs.{TurnLemmas.on_output-append, Running.of_here, Running.of_there, Joining.emitted-append, Joining.from_input-append, Joining.put-join}

-- what a task emits by moves that go on

emits_more : (c : ℕ) (p : Program) (s : ℕ) (moves more others : List Move) → moves ≡ more ++ others → IsPrefix (on_output c (emitted p s others)) (on_output c (emitted p s moves))
emits_more c p s moves more others e = (
  on_output c (emitted p (state p s others) more),
  ap (λ l. on_output c (emitted p s l)) e
      ∙ ap (on_output c) (emitted-append p s more others)
      ∙ on_output-append c (emitted p s others) (emitted p (state p s others) more),
)

emit_together : (c : ℕ) (p : Program) (s : ℕ) (moves others : List Move) → GoTogether moves others
    → IsPrefix (on_output c (emitted p s moves)) (on_output c (emitted p s others)) ⊎ IsPrefix (on_output c (emitted p s others)) (on_output c (emitted p s moves))
emit_together c p s moves others (inl more) = inr (emits_more c p s moves more.0 others more.1)
emit_together c p s moves others (inr more) = inl (emits_more c p s others more.0 moves more.1)

-- what was taken had been put

ordered_now : (job : Job) (from : States) (run : Run) (c : Channel) → IsRun job from run → IsIn c job.channels → IsPrefix (taken_off run c) (put_on job from run c)
ordered_now job from [] c r has = ([], refl)
ordered_now job from (step ∷ run) c r has =
    let before = r.2 c has in
    let more : List ℕ = put_on job (states_after job from run) (step ∷ []) c in (
      before.0 ++ more,
      put-join job from (step ∷ []) run c ∙ ap (λ l. l ++ more) before.1 ∙ append_assoc (taken_off (step ∷ run) c) before.0 more,
    )

-- the next element is the same

first_same : (x y : ℕ) (xs ys : List ℕ) → x ∷ xs ≡ y ∷ ys → x ≡ y
first_same x y xs ys e = grind (arith, common_steps)

next_same : (done : List ℕ) (x y : ℕ) (xs ys : List ℕ) → (done ++ x ∷ []) ++ xs ≡ (done ++ y ∷ []) ++ ys → x ≡ y
next_same done x y xs ys e = grind (arith, common_steps, append_assoc, append_cancel_left, first_same)

next_from : (done ps qs : List ℕ) (x y : ℕ) → IsPrefix (done ++ x ∷ []) ps → IsPrefix (done ++ y ∷ []) qs → IsPrefix ps qs → x ≡ y
next_from done ps qs x y h k on = grind (arith, common_steps, append_assoc, next_same)

next_either : (done ps qs : List ℕ) (x y : ℕ) → IsPrefix (done ++ x ∷ []) ps → IsPrefix (done ++ y ∷ []) qs → IsPrefix ps qs ⊎ IsPrefix qs ps → x ≡ y
next_either done ps qs x y h k (inl on) = next_from done ps qs x y h k on
next_either done ps qs x y h k (inr on) = sym (next_from done qs ps y x k h on)

-- moves follow the plan

in_middle : {X : Type 0} (x : X) (xs ys : List X) → IsIn x (xs ++ x ∷ ys)
in_middle x [] ys = inl refl
in_middle x (z ∷ xs) ys = inr (in_middle x xs ys)

planned : (job : Job) (from : States) (plan : Plan) (run : Run) (t : SubtaskId) (move : Move) → HasNoChoice job plan → IsRun job from run → IsIn move (of t run) → IsPlanned job t (plan t) move
planned job from plan [] t move only r has = grind (arith, common_steps)
planned job from plan (step ∷ run) t move only r has = grind (arith, common_steps, planned job from plan run t move only r.0)

pub takes_one : (j x : ℕ) (moves : List Move) → from_input j (Takes j x ∷ moves) ≡ from_input j moves ++ x ∷ []
takes_one j x moves = ap (λ b. from_input j moves ++ (if b then x ∷ [] else [])) ((Decides-eqb j j).1 refl)

-- the next move of a task is the same in both runs
next_move : (job : Job) (from : States) (step : By Move) (run second : Run) (most : List Move) (move : Move) (plan : Option Channel)
    → IsRun job from (step ∷ run)
    → IsRun job from second
    → ((t : SubtaskId) → GoTogether (of t run) (of t second))
    → of step.task second ≡ most ++ move ∷ of step.task run
    → IsPlanned job step.task plan step.what
    → IsPlanned job step.task plan move
    → step.what ≡ move
next_move job from step run second most move None r s together e here there = here ∙ sym there
next_move job from step run second most move (Some c) r s together e here there =
    let t : SubtaskId = step.task in
    let j : ℕ = c.input in
    let x : ℕ = here.2.0 in
    let y : ℕ = there.2.0 in
    let done : List ℕ = from_input j (of t run) in
    let first : taken_off (step ∷ run) c ≡ done ++ x ∷ [] =
    ap (λ u. from_input j (of u (step ∷ run))) here.1 ∙ ap (from_input j) (of_here t step run refl) ∙ ap (λ m. from_input j (m ∷ of t run)) here.2.1 ∙ takes_one j x (of t run)
    in
    let other : taken_off second c ≡ (done ++ y ∷ []) ++ from_input j most =
    ap (λ u. from_input j (of u second)) here.1
    ∙ ap (from_input j) e
    ∙ from_input-append j most (move ∷ of t run)
    ∙ ap (λ m. from_input j (m ∷ of t run) ++ from_input j most) there.2.1
    ∙ ap (λ l. l ++ from_input j most) (takes_one j y (of t run))
    in
    let put = r.2 c here.0 in
    let now = ordered_now job from second c s here.0 in
    let h : IsPrefix (done ++ x ∷ []) (put_on job from run c) = (put.0, put.1 ∙ ap (λ l. l ++ put.0) first) in
    let k : IsPrefix (done ++ y ∷ []) (put_on job from second c) =
    (from_input j most ++ now.0, now.1 ∙ ap (λ l. l ++ now.0) other ∙ append_assoc (done ++ y ∷ []) (from_input j most) now.0)
    in
    let same : x ≡ y =
    next_either done (put_on job from run c) (put_on job from second c) x y h k (emit_together c.output (job.program c.sender) (from c.sender) (of c.sender run) (of c.sender second) (together c.sender))
    in
    here.2.1 ∙ ap (Takes j) same ∙ sym there.2.1

-- one move more

from_end : (more : List Move) → (more ≡ []) ⊎ ((most : List Move) × (move : Move) × (more ≡ most ++ move ∷ []))
from_end [] = inl refl
from_end (m ∷ more) = inr (end m more (from_end more))
  where
    end : (m : Move) (more : List Move) → (more ≡ []) ⊎ ((most : List Move) × (move : Move) × (more ≡ most ++ move ∷ [])) → (most : List Move) × (move : Move) × (m ∷ more ≡ most ++ move ∷ [])
    end m more (inl e) = ([], m, ap (λ l. m ∷ l) e)
    end m more (inr h) = (m ∷ h.0, h.1, ap (λ l. m ∷ l) h.2)

go_on : (move : Move) (moves others : List Move) → ((most : List Move) (next : Move) → others ≡ most ++ next ∷ moves → move ≡ next) → GoTogether moves others → GoTogether (move ∷ moves) others
go_on move moves others same (inl more) = inl (move ∷ more.0, ap (λ l. move ∷ l) more.1)
go_on move moves others same (inr more) = behind (from_end more.0)
  where
    behind : (more.0 ≡ []) ⊎ ((most : List Move) × (next : Move) × (more.0 ≡ most ++ next ∷ [])) → GoTogether (move ∷ moves) others
    behind (inl e) = inl (move ∷ [], ap (λ l. move ∷ l) (sym (more.1 ∙ ap (λ l. l ++ moves) e)))
    behind (inr h) =
        let at : others ≡ h.0 ++ h.1 ∷ moves = more.1 ∙ ap (λ l. l ++ moves) h.2 ∙ append_assoc h.0 (h.1 ∷ []) moves in
        inr (h.0, at ∙ ap (λ m. h.0 ++ m ∷ moves) (sym (same h.0 h.1 at)))

one_on_by : (job : Job) (from : States) (plan : Plan) (step : By Move) (run second : Run) (t : SubtaskId) (b : Bool) → same_subtask step.task t ≡ b → HasNoChoice job plan → IsRun job from (step ∷ run) → IsRun job from second
    → ((u : SubtaskId) → GoTogether (of u run) (of u second)) → GoTogether (of t (step ∷ run)) (of t second)
one_on_by job from plan step run second t true same only r s together =
    let At : SubtaskId → Type 0 = λ u. GoTogether (of u (step ∷ run)) (of u second) in
    let Go : List Move → Type 0 = λ moves. GoTogether moves (of step.task second) in
    subst At ((same_subtask-Decides step.task t).0 same)
    (subst Go (sym (of_here step.task step run refl))
    (go_on step.what (of step.task run) (of step.task second)
    (λ most move e.
    let In : List Move → Type 0 = λ moves. IsIn move moves in
    next_move job from step run second most move (plan step.task) r s together e (only step.task step.what r.1) (planned job from plan second step.task move only s (subst In (sym e) (in_middle move most (of step.task run)))))
    (together step.task)))
one_on_by job from plan step run second t false other only r s together =
    let Go : List Move → Type 0 = λ moves. GoTogether moves (of t second) in
    subst Go (sym (of_there t step run other)) (together t)

go_together : (job : Job) (from : States) (plan : Plan) (first second : Run) → HasNoChoice job plan → IsRun job from first → IsRun job from second → (t : SubtaskId) → GoTogether (of t first) (of t second)
go_together job from plan [] second only r s t = inr (of t second, sym (append-nil (of t second)))
go_together job from plan (step ∷ run) second only r s t = one_on_by job from plan step run second t (same_subtask step.task t) refl only r s (go_together job from plan run second only r.0 s)

pub one_output : (job : Job) (from : States) (plan : Plan) (first second : Run) → OneOutput job from plan first second
one_output job from plan first second only r s =
    let together = go_together job from plan first second only r s in
    (together, λ sink. emit_together sink.output (job.program sink.task) (from sink.task) (of sink.task first) (of sink.task second) (together sink.task))
