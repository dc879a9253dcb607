-- A history of a job depends on the states of its own tasks alone.
use Rattle.ckpt_chain.proofs.Names.{◌≡◌, ℕ, Bool, List, [], ◌∷◌, ◌++◌, if◌then◌else◌, refl, sym, ap, ◌∙◌, SubtaskId, IsIn, opened, Item, Element, Barrier, End, Channel, Task, sent_on}
use Rattle.ckpt_chain.proofs.Names.{taken_from, By, GivesInOrder, History, IsHistory, IsJob, IsTurnOf, Job, States, before_cuts, has_stopped, network, of, snapshots, Offered, GivenUp, Drawn}
use Rattle.ckpt_chain.proofs.Names.{Ended, actions, moves_in, state}
use Rattle.ckpt_once.specs.Programs.{Turn}

-- the same state of each task of the job
abbrev pub AreSame : Job → States → States → Type 0
AreSame job from its = (t : SubtaskId) → IsIn t job.tasks → from t ≡ its t

pub is_task_of : (job : Job) (t : SubtaskId) (turn : Turn) → IsTurnOf job t turn → IsIn t job.tasks
is_task_of job t (Offered i (Element x)) k = k.0
is_task_of job t (Offered i (Barrier n)) k = k
is_task_of job t (Offered i End) k = k
is_task_of job t (GivenUp id) k = k
is_task_of job t Drawn k = k.0
is_task_of job t Ended k = k

pub same_task : (job : Job) (from its : States) (h : History) (t : SubtaskId) → from t ≡ its t → (network job from h).task t ≡ (network job its h).task t
same_task job from its h t e =
    ap (λ (s : ℕ). record { inputs = job.inputs t; actions = actions (job.program t) s (opened (job.inputs t)) (of t h) }) e

same_sent : (job : Job) (from its : States) (h : History) (c : Channel) → from c.sender ≡ its c.sender → sent_on (network job from h) c ≡ sent_on (network job its h) c
same_sent job from its h c e = ap (λ (t : Task). sent_on (record { task = λ s. t; channels = [] }) c) (same_task job from its h c.sender e)

same_taken : (job : Job) (from its : States) (h : History) (c : Channel) → from c.receiver ≡ its c.receiver → taken_from (network job from h) c ≡ taken_from (network job its h) c
same_taken job from its h c e = ap (λ (t : Task). taken_from (record { task = λ s. t; channels = [] }) c) (same_task job from its h c.receiver e)

pub same_history : (job : Job) (from its : States) (h : History) → IsJob job → AreSame job from its → IsHistory job from h → IsHistory job its h
same_history job from its [] is same k = tt
same_history job from its (event ∷ h) is same k = (
  same_history job from its h is same k.0,
  k.1,
  λ c has.
      let ends = is c has in
      let order : GivesInOrder (network job from h) (network job from (event ∷ h)) c = k.2 c has in (
        order.0,
        sym (same_sent job from its h c (same c.sender ends.0)) ∙ order.1
            ∙ ap (λ (items : List Item). items ++ order.0) (same_taken job from its (event ∷ h) c (same c.receiver ends.1)),
      ),
)

before_by : (event : By Turn) (b c : Bool) (h g : History) → b ≡ c → h ≡ g → (if b then h else event ∷ h) ≡ (if c then g else event ∷ g)
before_by event b c h g e same = ap (λ (k : Bool). if k then h else event ∷ h) e ∙ ap (λ (j : History). if c then j else event ∷ j) same

pub same_before : (n : ℕ) (job : Job) (from its : States) (h : History) → AreSame job from its → IsHistory job from h → before_cuts n job from h ≡ before_cuts n job its h
same_before n job from its [] same k = refl
same_before n job from its (event ∷ h) same k =
    before_by event (has_stopped n ((network job from (event ∷ h)).task event.task)) (has_stopped n ((network job its (event ∷ h)).task event.task)) (before_cuts n job from h) (before_cuts n job its h)
    (ap (has_stopped n) (same_task job from its (event ∷ h) event.task (same event.task (is_task_of job event.task event.what k.1))))
    (same_before n job from its h same k.0)

pub same_snapshot : (n : ℕ) (job : Job) (from its : States) (h : History) (t : SubtaskId) → AreSame job from its → IsHistory job from h → IsIn t job.tasks
    → snapshots n job from h t ≡ snapshots n job its h t
same_snapshot n job from its h t same k has =
    ap (λ (s : ℕ). state (job.program t) s (moves_in (opened (job.inputs t)) (of t (before_cuts n job from h)))) (same t has)
    ∙ ap (λ (g : History). state (job.program t) (its t) (moves_in (opened (job.inputs t)) (of t g))) (same_before n job from its h same k)
