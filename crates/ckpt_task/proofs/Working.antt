-- What an engine does with tasks over channels is a history.
use Rattle.ckpt_task.proofs.Names.{◌≡◌, ℕ, Bool, true, false, List, ◌∷◌, ◌++◌, ◌∙◌, refl, sym, ap, subst, arith, if◌then◌else◌, Option, Some, None, [], drop, length, ◌==◌, ◌&&◌, eqb-true}
use Rattle.ckpt_task.proofs.Names.{common_steps, append-nil, append_assoc, SubtaskId, IsIn, same_subtask, same_subtask-Decides, Alignment, opened, Item, after, sent, taken, Channel, sent_on}
use Rattle.ckpt_task.proofs.Names.{taken_from, Move, Program, Turn, Offered, GivenUp, Drawn, Ended, actions, aligned, move_in, moves_in, state, with_one, By, History, IsHistory, Job, States}
use Rattle.ckpt_task.proofs.Names.{network, of, sent-append, taken-append, of_here, of_there, aligned_is, taken_sendings, IsAtFront, IsWorking, engine, put_by, taken_by, MakesHistory, At}
use Rattle.ckpt_task.proofs.Names.{puts, takes, turned}

-- a task after turns

abbrev pub at_as : ℕ → Alignment → At
at_as s a = record { state = s; alignment = a }

abbrev pub at_of : Program → ℕ → Alignment → List Turn → At
at_of p s a turns = at_as (state p s (moves_in a turns)) (aligned a turns)

abbrev at : Job → States → History → SubtaskId → At
at job from h t = at_of (job.program t) (from t) (opened (job.inputs t)) (of t h)

state_one : (p : Program) (s : ℕ) (o : Option Move) (moves : List Move) → state p s (with_one o moves) ≡ state p (state p s moves) (with_one o [])
state_one p s None moves = refl
state_one p s (Some move) moves = refl

pub turned_is : (p : Program) (s : ℕ) (a : Alignment) (turns : List Turn) (turn : Turn) → turned p (at_of p s a turns) turn ≡ at_of p s a (turn ∷ turns)
turned_is p s a turns turn = ap (λ (k : ℕ). at_as k (aligned a (turn ∷ turns))) (sym (state_one p s (move_in (aligned a turns) turn) (moves_in a turns)))

task_by : (job : Job) (from : States) (e : By Turn) (h : History) (t : SubtaskId) (b : Bool) → same_subtask e.task t ≡ b → (engine job from h).task t ≡ at job from h t → (engine job from (e ∷ h)).task t ≡ at job from (e ∷ h) t
task_by job from e h t true same k = grind (arith, common_steps)
task_by job from e h t false other k = grind (arith, common_steps)

task_is : (job : Job) (from : States) (h : History) (t : SubtaskId) → (engine job from h).task t ≡ at job from h t
task_is job from [] t = refl
task_is job from (e ∷ h) t = task_by job from e h t (same_subtask e.task t) refl (task_is job from h t)

-- what a turn puts on a channel, and takes from it

pub puts_is : (c : ℕ) (p : Program) (s : ℕ) (a : Alignment) (turns : List Turn) (turn : Turn) → sent c a (actions p s a (turn ∷ turns)) ≡ sent c a (actions p s a turns) ++ puts p (at_of p s a turns) turn c
puts_is c p s a turns turn = grind (arith, common_steps, aligned_is, sent-append)

pub takes_is : (j : ℕ) (p : Program) (s : ℕ) (a : Alignment) (turns : List Turn) (turn : Turn) → taken j a (actions p s a (turn ∷ turns)) ≡ taken j a (actions p s a turns) ++ takes p (at_of p s a turns) turn j
takes_is j p s a turns turn = grind (arith, common_steps, aligned_is, taken-append)

put_more : (job : Job) (from : States) (e : By Turn) (h : History) (c : Channel) (b : Bool) → same_subtask e.task c.sender ≡ b → sent_on (network job from (e ∷ h)) c ≡ sent_on (network job from h) c ++ put_by job (engine job from h) e c
put_more job from e h c true same = grind (arith, common_steps, of_here, puts_is, same_subtask-Decides, task_is)
put_more job from e h c false other = grind (arith, common_steps, append-nil, of_there)

took_more : (job : Job) (from : States) (e : By Turn) (h : History) (c : Channel) (b : Bool) → same_subtask e.task c.receiver ≡ b → taken_from (network job from (e ∷ h)) c ≡ taken_from (network job from h) c ++ taken_by job (engine job from h) e c
took_more job from e h c true same = grind (arith, common_steps, of_here, same_subtask-Decides, takes_is, task_is)
took_more job from e h c false other = grind (arith, common_steps, append-nil, of_there)

-- what is taken stands at the front

abbrev Splits : List Item → List Item → Type 0
Splits took on = on ≡ took ++ drop (length took) on

splits_none : (on : List Item) → Splits [] on
splits_none on = refl

splits_one : (item : Item) (rest on : List Item) → on ≡ item ∷ rest → Splits (item ∷ []) on
splits_one item rest on e = subst (λ (l : List Item). Splits (item ∷ []) l) (sym e) refl

splits_by : (j i : ℕ) (item : Item) (same is : Bool) (more on : List Item) → (i == j) ≡ same → more ≡ [] → (i ≡ j → (rest : List Item) × (on ≡ item ∷ rest)) → Splits ((if same && is then item ∷ [] else []) ++ more) on
splits_by j i item true true more on e none front = let f = front (eqb-true i j e) in subst (λ (l : List Item). Splits (item ∷ l) on) (sym none) (splits_one item f.0 on f.1)
splits_by j i item true false more on e none front = subst (λ (l : List Item). Splits l on) (sym none) (splits_none on)
splits_by j i item false is more on e none front = subst (λ (l : List Item). Splits l on) (sym none) (splits_none on)

splits_no : (took on : List Item) → took ≡ [] → Splits took on
splits_no took on none = subst (λ (l : List Item). Splits l on) (sym none) (splits_none on)

takes_front : (p : Program) (m : At) (turn : Turn) (j : ℕ) (on : List Item) → IsAtFront turn j on → Splits (takes p m turn j) on
takes_front p m (Offered i item) j on front = grind (arith, common_steps, splits_by, taken_sendings)
takes_front p m (GivenUp id) j on front = grind (arith, common_steps, splits_no, taken_sendings)
takes_front p m Drawn j on front = grind (arith, common_steps, splits_no, taken_sendings)
takes_front p m Ended j on front = grind (arith, common_steps, splits_no, taken_sendings)

front_by : (job : Job) (from : States) (e : By Turn) (h : History) (c : Channel) (b : Bool) → same_subtask e.task c.receiver ≡ b → (e.task ≡ c.receiver → IsAtFront e.what c.input ((engine job from h).on c))
    → Splits (if b then takes (job.program c.receiver) ((engine job from h).task c.receiver) e.what c.input else []) ((engine job from h).on c)
front_by job from e h c true same front = takes_front (job.program c.receiver) ((engine job from h).task c.receiver) e.what c.input ((engine job from h).on c) (front ((same_subtask-Decides e.task c.receiver).0 same))
front_by job from e h c false other front = splits_none ((engine job from h).on c)

-- the channel, one turn later

gives : (sent_now took took_now on rest : List Item) (one : List Item) → sent_now ≡ took ++ on → took_now ≡ took ++ one → on ≡ one ++ rest → sent_now ≡ took_now ++ rest
gives sent_now took took_now on rest one in_order more front = in_order ∙ ap (λ l. took ++ l) front ∙ sym (append_assoc took one rest) ∙ ap (λ l. l ++ rest) (sym more)

keeps : (sent_now sent_later took_now rest put : List Item) → sent_now ≡ took_now ++ rest → sent_later ≡ sent_now ++ put → sent_later ≡ took_now ++ (rest ++ put)
keeps sent_now sent_later took_now rest put in_order more = more ∙ ap (λ l. l ++ put) in_order ∙ append_assoc took_now rest put

abbrev OnChannels : Job → States → History → Type 0
OnChannels job from h = (c : Channel) → IsIn c job.channels → sent_on (network job from h) c ≡ taken_from (network job from h) c ++ (engine job from h).on c

gives_in_order : (job : Job) (from : States) (e : By Turn) (h : History) (c : Channel) → IsIn c job.channels → OnChannels job from h → (e.task ≡ c.receiver → IsAtFront e.what c.input ((engine job from h).on c))
    → sent_on (network job from h) c ≡ taken_from (network job from (e ∷ h)) c ++ drop (length (taken_by job (engine job from h) e c)) ((engine job from h).on c)
gives_in_order job from e h c has so front = grind (arith, common_steps, front_by, gives, took_more)

on_channels : (job : Job) (from : States) (h : History) → IsWorking job from h → OnChannels job from h
on_channels job from [] works c has = grind (arith, common_steps)
on_channels job from (e ∷ h) works c has = grind (arith, common_steps, gives_in_order, keeps, put_more, on_channels job from h works.0)

is_history : (job : Job) (from : States) (h : History) → IsWorking job from h → IsHistory job from h
is_history job from [] works = tt
is_history job from (e ∷ h) works = (
  is_history job from h works.0,
  works.1,
  λ c has. (drop (length (taken_by job (engine job from h) e c)) ((engine job from h).on c), gives_in_order job from e h c has (on_channels job from h works.0) (works.3 c has)),
)

pub makes_history : (job : Job) (from : States) (h : History) → MakesHistory job from h
makes_history job from h works = grind (arith, common_steps, is_history, on_channels, task_is)
