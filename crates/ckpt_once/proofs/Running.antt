-- What tasks do in an engine is a run, and so is what they did before their cuts.
use Rattle.ckpt_once.proofs.Names.{common_steps, arith, ◌≡◌, ℕ, Bool, true, false, List, ◌∷◌, ◌++◌, ◌∙◌, refl, sym, ap, if◌then◌else◌, Option, Some, None, [], append-nil, append_assoc}
use Rattle.ckpt_once.proofs.Names.{SubtaskId, IsIn, same_subtask, same_subtask-Decides, Alignment, opened, Item, Element, replay, Barrier, End, Action, is_taken, answer_to, taken, sent}
use Rattle.ckpt_once.proofs.Names.{elements, processed, before_cut, Channel, Network, IsInOrder, IsConsistent, global_cut, elements-append, Move, Takes, Turn, Offered, GivenUp, Drawn, Ended}
use Rattle.ckpt_once.proofs.Names.{state, move_in, with_one, aligned, moves_in, actions, acts, Job, By, Run, History, States, of, IsPrefix, states_after, put_on, taken_off, IsMoveOf}
use Rattle.ckpt_once.proofs.Names.{IsTurnOf, IsRun, network, IsHistory, states_in, as_step, run_of, has_stopped, before_cuts, WithoutBarriers, RecordIsOfRun}
use Rattle.ckpt_once.proofs.{ActionLemmas.stopped, ActionLemmas.cut_in_order, ActionLemmas.sent-append, TurnLemmas.taken_is, TurnLemmas.sent_is, TurnLemmas.turns_before}
use Rattle.ckpt_once.proofs.TurnLemmas.{before_is}

-- those of one task

pub of_here : {X : Type 0} (t : SubtaskId) (e : By X) (h : List (By X)) → e.task ≡ t → of t (e ∷ h) ≡ e.what ∷ of t h
of_here t e h same = ap (λ b. if b then e.what ∷ of t h else of t h) ((same_subtask-Decides e.task t).1 same)

pub of_there : {X : Type 0} (t : SubtaskId) (e : By X) (h : List (By X)) → same_subtask e.task t ≡ false → of t (e ∷ h) ≡ of t h
of_there t e h other = ap (λ b. if b then e.what ∷ of t h else of t h) other

run_moves_by : (job : Job) (e : By Turn) (h : History) (t : SubtaskId) (b : Bool) → same_subtask e.task t ≡ b → of t (run_of job h) ≡ moves_in (opened (job.inputs t)) (of t h)
    → of t (run_of job (e ∷ h)) ≡ moves_in (opened (job.inputs t)) (of t (e ∷ h))
run_moves_by job e h t true same k = grind (arith, common_steps)
run_moves_by job e h t false other k = grind (arith, common_steps)

pub run_moves : (job : Job) (h : History) (t : SubtaskId) → of t (run_of job h) ≡ moves_in (opened (job.inputs t)) (of t h)
run_moves job [] t = refl
run_moves job (e ∷ h) t = run_moves_by job e h t (same_subtask e.task t) refl (run_moves job h t)

-- what a task did before its cut

abbrev pub turns_of : ℕ → Job → States → SubtaskId → List Turn → List Turn
turns_of n job from t turns = turns_before n (job.program t) (from t) (opened (job.inputs t)) turns

abbrev stops : ℕ → Job → States → SubtaskId → List Turn → Bool
stops n job from t turns = stopped n (opened (job.inputs t)) (actions (job.program t) (from t) (opened (job.inputs t)) turns)

of_if_here : (t : SubtaskId) (e : By Turn) (h : History) (b : Bool) → e.task ≡ t → of t (if b then h else e ∷ h) ≡ (if b then of t h else e.what ∷ of t h)
of_if_here t e h true same = refl
of_if_here t e h false same = of_here t e h same

of_if_there : (t : SubtaskId) (e : By Turn) (h : History) (b : Bool) → same_subtask e.task t ≡ false → of t (if b then h else e ∷ h) ≡ of t h
of_if_there t e h true other = refl
of_if_there t e h false other = of_there t e h other

before_turns_by : (n : ℕ) (job : Job) (from : States) (e : By Turn) (h : History) (t : SubtaskId) (b : Bool) → same_subtask e.task t ≡ b
    → of t (before_cuts n job from h) ≡ turns_of n job from t (of t h)
    → of t (before_cuts n job from (e ∷ h)) ≡ turns_of n job from t (of t (e ∷ h))
before_turns_by n job from e h t true same k = grind (arith, common_steps, of_here, of_if_here, same_subtask-Decides)
before_turns_by n job from e h t false other k = grind (arith, common_steps, of_if_there, of_there)

pub before_turns : (n : ℕ) (job : Job) (from : States) (h : History) (t : SubtaskId) → of t (before_cuts n job from h) ≡ turns_of n job from t (of t h)
before_turns n job from [] t = refl
before_turns n job from (e ∷ h) t = before_turns_by n job from e h t (same_subtask e.task t) refl (before_turns n job from h t)

-- channels

abbrev pub acts_of : Job → States → History → SubtaskId → List Action
acts_of job from h t = ((network job from h).task t).actions

pub taken_off_is : (job : Job) (from : States) (h : History) (c : Channel) → taken_off (run_of job h) c ≡ elements (taken c.input (opened (job.inputs c.receiver)) (acts_of job from h c.receiver))
taken_off_is job from h c = grind (arith, common_steps, run_moves, taken_is)

pub put_on_is : (job : Job) (from : States) (h : History) (c : Channel) → put_on job from (run_of job h) c ≡ elements (sent c.output (opened (job.inputs c.sender)) (acts_of job from h c.sender))
put_on_is job from h c = grind (arith, common_steps, run_moves, sent_is)

pub acts_before : (n : ℕ) (job : Job) (from : States) (h : History) (t : SubtaskId) → acts_of job from (before_cuts n job from h) t ≡ before_cut n (opened (job.inputs t)) (acts_of job from h t)
acts_before n job from h t = grind (arith, common_steps, before_is, before_turns)

pub taken_before_is : (n : ℕ) (job : Job) (from : States) (h : History) (c : Channel)
    → taken_off (run_of job (before_cuts n job from h)) c ≡ processed c.input (opened (job.inputs c.receiver)) (before_cut n (opened (job.inputs c.receiver)) (acts_of job from h c.receiver))
taken_before_is n job from h c =
    taken_off_is job from (before_cuts n job from h) c ∙ ap (processed c.input (opened (job.inputs c.receiver))) (acts_before n job from h c.receiver)

pub put_before_is : (n : ℕ) (job : Job) (from : States) (h : History) (c : Channel)
    → put_on job from (run_of job (before_cuts n job from h)) c ≡ elements (sent c.output (opened (job.inputs c.sender)) (before_cut n (opened (job.inputs c.sender)) (acts_of job from h c.sender)))
put_before_is n job from h c = grind (arith, common_steps, acts_before, put_on_is)

pub prefix_like : (xs us ys vs : List ℕ) → xs ≡ us → ys ≡ vs → IsPrefix us vs → IsPrefix xs ys
prefix_like xs us ys vs e f h = (h.0, f ∙ h.1 ∙ ap (λ l. l ++ h.0) (sym e))

abbrev pub IsOrdered : Job → States → Run → Run → Type 0
IsOrdered job from now run = (c : Channel) → IsIn c job.channels → IsPrefix (taken_off now c) (put_on job from run c)

-- a turn makes a move of the job
abbrev IsMaybeOf : Job → SubtaskId → Option Move → Type 0
IsMaybeOf job t None = Unit {0}
IsMaybeOf job t (Some move) = IsMoveOf job t move

is_move_if : (job : Job) (t : SubtaskId) (move : Move) (is : Bool) → IsMoveOf job t move → IsMaybeOf job t (if is then Some move else None)
is_move_if job t move true fed = fed
is_move_if job t move false fed = tt

is_move : (job : Job) (t : SubtaskId) (a : Alignment) (turn : Turn) → IsTurnOf job t turn → IsMaybeOf job t (move_in a turn)
is_move job t a (Offered i (Element x)) fed = is_move_if job t (Takes i x) (is_taken (answer_to a i (Element x))) fed
is_move job t a (Offered i (Barrier n)) fed = tt
is_move job t a (Offered i End) fed = tt
is_move job t a (GivenUp id) fed = tt
is_move job t a Drawn fed = fed
is_move job t a Ended fed = tt

run_goes_on : (job : Job) (from : States) (t : SubtaskId) (o : Option Move) (run : Run) → IsRun job from run → IsMaybeOf job t o → IsOrdered job from (with_one (as_step t o) run) run → IsRun job from (with_one (as_step t o) run)
run_goes_on job from t None run r fed k = r
run_goes_on job from t (Some move) run r fed k = (r, fed, k)

-- one turn more
pub one_turn_by : (job : Job) (from : States) (e : By Turn) (h : History) (t : SubtaskId) (b : Bool) → same_subtask e.task t ≡ b → (more : List Action) × (acts_of job from (e ∷ h) t ≡ acts_of job from h t ++ more)
one_turn_by job from e h t true same =
    let a : Alignment = opened (job.inputs t) in
    let turns : List Turn = of t h in
    (acts (job.program t) (state (job.program t) (from t) (moves_in a turns)) (aligned a turns) e.what, ap (actions (job.program t) (from t) a) (of_here t e h ((same_subtask-Decides e.task t).0 same)))
one_turn_by job from e h t false other =
    ([], ap (actions (job.program t) (from t) (opened (job.inputs t))) (of_there t e h other) ∙ sym (append-nil (acts_of job from h t)))

in_order : (job : Job) (from : States) (h : History) → IsHistory job from h → (c : Channel) → IsIn c job.channels → IsInOrder (network job from h) c
in_order job from [] k c has = ([], refl)
in_order job from (e ∷ h) k c has =
    let t : SubtaskId = c.sender in
    let a : Alignment = opened (job.inputs t) in
    let xs : List Action = acts_of job from h t in
    let one = one_turn_by job from e h t (same_subtask e.task t) refl in
    let way = k.2 c has in
    let took : List Item = taken c.input (opened (job.inputs c.receiver)) (acts_of job from (e ∷ h) c.receiver) in
    let more : List Item = sent c.output (replay a xs) one.0 in
    (way.0 ++ more, ap (sent c.output a) one.1 ∙ sent-append c.output a xs one.0 ∙ ap (λ l. l ++ more) way.1 ∙ append_assoc took way.0 more)

-- without barriers

is_ordered : (job : Job) (from : States) (e : By Turn) (h : History) → IsHistory job from (e ∷ h) → IsOrdered job from (run_of job (e ∷ h)) (run_of job h)
is_ordered job from e h k c has =
    let way = k.2 c has in
    let took : List Item = taken c.input (opened (job.inputs c.receiver)) (acts_of job from (e ∷ h) c.receiver) in
    let gave : List Item = sent c.output (opened (job.inputs c.sender)) (acts_of job from h c.sender) in
    prefix_like (taken_off (run_of job (e ∷ h)) c) (elements took) (put_on job from (run_of job h) c) (elements gave) (taken_off_is job from (e ∷ h) c) (put_on_is job from h c) (elements way.0, ap elements way.1 ∙ elements-append took way.0)

is_run : (job : Job) (from : States) (h : History) → IsHistory job from h → IsRun job from (run_of job h)
is_run job from [] k = grind (arith, common_steps)
is_run job from (e ∷ h) k = grind (arith, common_steps, is_move, is_ordered, run_goes_on, is_run job from h k.0)

same_states : (job : Job) (from : States) (h : History) (t : SubtaskId) → states_in job from h t ≡ states_after job from (run_of job h) t
same_states job from h t = ap (state (job.program t) (from t)) (sym (run_moves job h t))

pub without_barriers : (job : Job) (from : States) (h : History) → WithoutBarriers job from h
without_barriers job from h k = (is_run job from h k, same_states job from h)

-- up to the cuts of a record

-- what tasks do goes on
abbrev GoesOn : Job → States → History → History → Type 0
GoesOn job from h whole = (t : SubtaskId) → (more : List Action) × (acts_of job from whole t ≡ acts_of job from h t ++ more)

goes_on : (job : Job) (from : States) (e : By Turn) (h whole : History) → GoesOn job from (e ∷ h) whole → GoesOn job from h whole
goes_on job from e h whole k t =
    let one = one_turn_by job from e h t (same_subtask e.task t) refl in
    (one.0 ++ (k t).0, (k t).1 ∙ ap (λ l. l ++ (k t).0) one.1 ∙ append_assoc (acts_of job from h t) one.0 (k t).0)

is_ordered_before : (n : ℕ) (job : Job) (from : States) (e : By Turn) (h whole : History) → IsConsistent n (network job from whole) → GoesOn job from (e ∷ h) whole → IsHistory job from (e ∷ h)
    → IsOrdered job from (run_of job (before_cuts n job from (e ∷ h))) (run_of job (before_cuts n job from h))
is_ordered_before n job from e h whole same on k c has =
    let a : Alignment = opened (job.inputs c.sender) in
    let b : Alignment = opened (job.inputs c.receiver) in
    let xs : List Action = acts_of job from h c.sender in
    let ys : List Action = acts_of job from (e ∷ h) c.receiver in
    let xs_on = goes_on job from e h whole on c.sender in
    let ys_on = on c.receiver in
    let way = k.2 c has in
    prefix_like (taken_off (run_of job (before_cuts n job from (e ∷ h))) c) (processed c.input b (before_cut n b ys)) (put_on job from (run_of job (before_cuts n job from h)) c) (elements (sent c.output a (before_cut n a xs)))
    (taken_before_is n job from (e ∷ h) c) (put_before_is n job from h c)
    (cut_in_order n c.input c.output a b xs xs_on.0 ys ys_on.0 way.0
    (ap (λ l. processed c.input b (before_cut n b l)) (sym ys_on.1) ∙ same c has ∙ ap (λ l. elements (sent c.output a (before_cut n a l))) xs_on.1) way.1)

one_before : (n : ℕ) (job : Job) (from : States) (e : By Turn) (bc : History) (b : Bool) → IsTurnOf job e.task e.what → IsRun job from (run_of job bc) → IsOrdered job from (run_of job (if b then bc else e ∷ bc)) (run_of job bc) → IsRun job from (run_of job (if b then bc else e ∷ bc))
one_before n job from e bc true fed r k = grind (arith, common_steps)
one_before n job from e bc false fed r k = grind (arith, common_steps, is_move, run_goes_on)

is_run_before : (n : ℕ) (job : Job) (from : States) (h whole : History) → IsConsistent n (network job from whole) → GoesOn job from h whole → IsHistory job from h → IsRun job from (run_of job (before_cuts n job from h))
is_run_before n job from [] whole same on k = tt
is_run_before n job from (e ∷ h) whole same on k =
    one_before n job from e (before_cuts n job from h) (has_stopped n ((network job from (e ∷ h)).task e.task)) k.1
    (is_run_before n job from h whole same (goes_on job from e h whole on) k.0)
    (is_ordered_before n job from e h whole same on k)

pub record_is_of_run : (n : ℕ) (job : Job) (from : States) (h : History) → RecordIsOfRun n job from h
record_is_of_run n job from h is k cut =
    let w : Network = network job from h in
    let same : IsConsistent n w = (global_cut n w (λ c has. let at = is c has in (at.2, in_order job from h k c has, cut c.receiver at.1))).0 in (
      is_run_before n job from h h same (λ t. ([], sym (append-nil (acts_of job from h t)))) k,
      λ c has. put_before_is n job from h c ∙ sym (same c has) ∙ sym (taken_before_is n job from h c),
      same_states job from (before_cuts n job from h),
    )
