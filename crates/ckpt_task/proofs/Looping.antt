-- Runs of a task are turns of its history, and the histories of the tasks, one behind the other, are one of the job.
use Rattle.ckpt_task.proofs.Names.{common_steps, arith, ◌≡◌, ℕ, Bool, true, false, List, ◌∷◌, ◌++◌, ◌∙◌, refl, sym, ap, subst, Option, Some, None, inl, inr, [], ◌⊎◌, map, both_ways}
use Rattle.ckpt_task.proofs.Names.{append-nil, append_assoc, SubtaskId, IsIn, same_subtask, same_subtask-Decides, Alignment, opened, Action, Item, has_cut, sent, taken, Channel, sent_on}
use Rattle.ckpt_task.proofs.Names.{Program, Turn, Offered, GivenUp, Drawn, Ended, acts, actions, aligned, moves_in, state, told, Transaction, By, GivesInOrder, History, IsHistory, IsTurnOf}
use Rattle.ckpt_task.proofs.Names.{Job, States, network, of, sent-append, taken-append, of_here, of_there, aligned_is, cut_stays, Deed, Came, Took, Sent, SentBarrier, SentEnd, Acknowledged}
use Rattle.ckpt_task.proofs.Names.{Declined, Word, Acknowledges, Declines, came_in, sent_in, taken_in, told_in, has_ended_in, AreRuns, IsDownstreamFirst, one_by_one, AreKept, Around, HasRun}
use Rattle.ckpt_task.proofs.Names.{IsKeptBy, Kept, Waits, after_turns, At, cut_of}
use Rattle.ckpt_task.proofs.{Snapping.Ends-last, Snapping.cut_later, Snapping.not_ended_in, Snapping.turn_cuts, Working.at_as, Working.at_of}
use Rattle.ckpt_task.specs.declared.turn.Next.TheVariants as next

-- turns behind turns

pub after_more : (p : Program) (s : ℕ) (a : Alignment) (turns us : List Turn) → after_turns p (at_of p s a us) turns ≡ at_of p s a (turns ++ us)
after_more p s a [] us = grind (arith, common_steps)
after_more p s a (turn ∷ turns) us = grind (arith, common_steps, after_more p s a turns us)

abbrev actions_from : Program → At → List Turn → List Action
actions_from p m turns = actions p m.state m.alignment turns

pub actions_more : (p : Program) (s : ℕ) (a : Alignment) (turns us : List Turn) → actions p s a (turns ++ us) ≡ actions p s a us ++ actions_from p (at_of p s a us) turns
actions_more p s a [] us = sym (append-nil (actions p s a us))
actions_more p s a (turn ∷ turns) us =
    let m : At = at_of p s a us in
    let acts_at : At → List Action = λ k. acts p k.state k.alignment turn in
    ap (λ (l : List Action). l ++ acts_at (at_of p s a (turns ++ us))) (actions_more p s a turns us)
    ∙ ap (λ (k : At). (actions p s a us ++ actions_from p m turns) ++ acts_at k) (sym (after_more p s a turns us))
    ∙ append_assoc (actions p s a us) (actions_from p m turns) (acts_at (after_turns p m turns))

taken_more : (j : ℕ) (p : Program) (s : ℕ) (a : Alignment) (turns us : List Turn)
    → taken j a (actions p s a (turns ++ us)) ≡ taken j a (actions p s a us) ++ taken j (aligned a us) (actions_from p (at_of p s a us) turns)
taken_more j p s a turns us = grind (arith, common_steps, actions_more, aligned_is, at_of, taken-append)

sent_more : (c : ℕ) (p : Program) (s : ℕ) (a : Alignment) (turns us : List Turn)
    → sent c a (actions p s a (turns ++ us)) ≡ sent c a (actions p s a us) ++ sent c (aligned a us) (actions_from p (at_of p s a us) turns)
sent_more c p s a turns us = grind (arith, common_steps, actions_more, aligned_is, at_of, sent-append)

-- what came is never an end of the task itself

pub comes_on : (deeds : List Deed) → has_ended_in (came_in deeds) ≡ false
comes_on [] = refl
comes_on (Came (next.Element i x) ∷ deeds) = comes_on deeds
comes_on (Came (next.Barrier i n) ∷ deeds) = comes_on deeds
comes_on (Came (next.End i) ∷ deeds) = comes_on deeds
comes_on (Came (next.GiveUp n) ∷ deeds) = comes_on deeds
comes_on (Came next.Draw ∷ deeds) = comes_on deeds
comes_on (Took ∷ deeds) = comes_on deeds
comes_on (Sent o x ∷ deeds) = comes_on deeds
comes_on (SentBarrier n ∷ deeds) = comes_on deeds
comes_on (SentEnd ∷ deeds) = comes_on deeds
comes_on (Acknowledged n ∷ deeds) = comes_on deeds
comes_on (Declined n ∷ deeds) = comes_on deeds

pub was_on : (turn : Turn) (turns : List Turn) → has_ended_in (turn ∷ turns) ≡ false → has_ended_in turns ≡ false
was_on (Offered i item) turns e = e
was_on (GivenUp id) turns e = e
was_on Drawn turns e = e
was_on Ended turns e = absurd (both_ways true e refl)

pub ends_last : (turns : List Turn) → has_ended_in turns ≡ false → Ends-last turns
ends_last [] e = tt
ends_last (turn ∷ turns) e = (ends_last turns (was_on turn turns e), was_on turn turns e)

-- A TASK

-- what the coordinator was told is of records that were cut
abbrev Tells : Program → ℕ → Alignment → List Turn → List Word → Type 0
Tells p s a turns words = (n : ℕ) → IsIn (Acknowledges n) words → has_cut n a (actions p s a turns) ≡ true

same_number : (n m : ℕ) → Acknowledges n ≡ Acknowledges m → n ≡ m
same_number n m e = cc

no_decline : (n m : ℕ) → Acknowledges n ≡ Declines m → ⊥
no_decline n m e = cc

one_more : (n m : ℕ) (words : List Word) → IsIn (Acknowledges n) (Acknowledges m ∷ words) → (Some m ≡ Some n) ⊎ IsIn (Acknowledges n) words
one_more n m words (inl same) = inl (ap Some (sym (same_number n m same)))
one_more n m words (inr has) = inr has

no_more : (n m : ℕ) (words : List Word) → IsIn (Acknowledges n) (Declines m ∷ words) → IsIn (Acknowledges n) words
no_more n m words (inl same) = absurd (no_decline n m same)
no_more n m words (inr has) = has

told_by : (n s : ℕ) (cut given : Option ℕ) (waiting : List Transaction) (k l : Kept) → IsKeptBy cut given s waiting k l → IsIn (Acknowledges n) l.told → (cut ≡ Some n) ⊎ IsIn (Acknowledges n) k.told
told_by n s (Some m) given waiting k l (inl is) has = one_more n m k.told (subst (λ (z : Kept). IsIn (Acknowledges n) z.told) is has)
told_by n s (Some m) given waiting k l (inr declined) has = inr (no_more n m k.told (subst (λ (words : List Word). IsIn (Acknowledges n) words) declined.told has))
told_by n s None (Some m) waiting k l is has = inr (no_more n m k.told (subst (λ (z : Kept). IsIn (Acknowledges n) z.told) is has))
told_by n s None None waiting k l is has = inr (subst (λ (z : Kept). IsIn (Acknowledges n) z.told) is has)

cut_now : (n : ℕ) (p : Program) (s : ℕ) (a : Alignment) (turn : Turn) (turns : List Turn) → has_ended_in turns ≡ false → cut_of (aligned a turns) turn ≡ Some n → has_cut n a (actions p s a (turn ∷ turns)) ≡ true
cut_now n p s a turn turns on e = grind (arith, common_steps, aligned_is, cut_later, not_ended_in, turn_cuts)

cut_either : (n : ℕ) (p : Program) (s : ℕ) (a : Alignment) (turn : Turn) (turns : List Turn) (words : List Word) → has_ended_in turns ≡ false → Tells p s a turns words
    → (cut_of (aligned a turns) turn ≡ Some n) ⊎ IsIn (Acknowledges n) words → has_cut n a (actions p s a (turn ∷ turns)) ≡ true
cut_either n p s a turn turns words on tells (inl cut) = cut_now n p s a turn turns on cut
cut_either n p s a turn turns words on tells (inr has) = cut_stays n a (actions p s a turns) (acts p (state p s (moves_in a turns)) (aligned a turns) turn) (tells n has)

tells_more : (p : Program) (s : ℕ) (a : Alignment) (us turns : List Turn) (waits : Waits) (k l : Kept) → has_ended_in (turns ++ us) ≡ false → AreKept p (at_of p s a us) waits turns k l
    → Tells p s a us k.told → Tells p s a (turns ++ us) l.told
tells_more p s a us [] waits k l on same tells n has = grind (arith, common_steps)
tells_more p s a us (turn ∷ turns) waits k l on kept tells n has = grind (arith, common_steps, after_more, at_of, cut_either, told_by, was_on, tells_more p s a us turns waits k)

-- a task that started with this state and this aligner is where the turns that came lead
pub record Follows (p : Program) (s : ℕ) (a : Alignment) (x : Around) : Type 0 where
  pub task : x.task ≡ at_of p s a (came_in x.deeds)
  pub taken_on : (j : ℕ) → taken_in j x.deeds ≡ taken j a (actions p s a (came_in x.deeds))
  pub sent_on : (c : ℕ) → sent_in c x.deeds ≡ sent c a (actions p s a (came_in x.deeds))
  pub tells : Tells p s a (came_in x.deeds) (told_in x.deeds)

pub follows_first : (p : Program) (s : ℕ) (a : Alignment) (x : Around) → x.task ≡ at_as s a → x.deeds ≡ [] → Follows p s a x
follows_first p s a x task unused = grind (arith, common_steps)

pub follows_run : (p : Program) (s : ℕ) (a : Alignment) (waits : Waits) (n : ℕ) (x y : Around) → Follows p s a x → HasRun p waits n x y → Follows p s a y
follows_run p s a waits n x y was run = grind (arith, common_steps, after_more, at_of, comes_on, sent_more, taken_more, tells_more)

pub follows : (p : Program) (s : ℕ) (a : Alignment) (begins : List Around) (x y : Around) → x.task ≡ at_as s a → x.deeds ≡ [] → AreRuns p begins x y → Follows p s a y
follows p s a [] x y task unused same = subst (λ (k : Around). Follows p s a k) (sym same) (follows_first p s a x task unused)
follows p s a (begin ∷ begins) x y task unused runs = let one = runs.1 in follows_run p s a one.0 one.1 begin y (follows p s a begins x begin task unused runs.0) one.2

-- THE JOB

abbrev pub by : SubtaskId → Turn → By Turn
by t turn = record { task = t; what = turn }

-- the turns of one task, in front of a history

of_by_here : (t s : SubtaskId) (us : List Turn) (h : History) → t ≡ s → of s (map (by t) us ++ h) ≡ us ++ of s h
of_by_here t s [] h same = refl
of_by_here t s (u ∷ us) h same = of_here s (by t u) (map (by t) us ++ h) same ∙ ap (λ l. u ∷ l) (of_by_here t s us h same)

of_by_there : (t s : SubtaskId) (us : List Turn) (h : History) → same_subtask t s ≡ false → of s (map (by t) us ++ h) ≡ of s h
of_by_there t s [] h other = refl
of_by_there t s (u ∷ us) h other = of_there s (by t u) (map (by t) us ++ h) other ∙ of_by_there t s us h other

abbrev Turns : Type 0
Turns = SubtaskId → List Turn

-- a task that is not in the list has no turn
abbrev IsInOrNot : Turns → SubtaskId → List SubtaskId → Type 0
IsInOrNot turns s ts = IsIn s ts ⊎ (of s (one_by_one turns ts) ≡ [])

in_or_not_by : (turns : Turns) (s t : SubtaskId) (ts : List SubtaskId) (b : Bool) → same_subtask t s ≡ b → IsInOrNot turns s ts → IsInOrNot turns s (t ∷ ts)
in_or_not_by turns s t ts true same is = inl (inl (sym ((same_subtask-Decides t s).0 same)))
in_or_not_by turns s t ts false other (inl has) = inl (inr has)
in_or_not_by turns s t ts false other (inr none) = inr (of_by_there t s (turns t) (one_by_one turns ts) other ∙ none)

in_or_not : (turns : Turns) (s : SubtaskId) (ts : List SubtaskId) → IsInOrNot turns s ts
in_or_not turns s [] = inr refl
in_or_not turns s (t ∷ ts) = in_or_not_by turns s t ts (same_subtask t s) refl (in_or_not turns s ts)

not_in : (turns : Turns) (s : SubtaskId) (ts : List SubtaskId) → (IsIn s ts → ⊥) → IsInOrNot turns s ts → of s (one_by_one turns ts) ≡ []
not_in turns s ts out (inl has) = absurd (out has)
not_in turns s ts out (inr none) = none

another_by : (t s : SubtaskId) (ts : List SubtaskId) (b : Bool) → same_subtask t s ≡ b → (IsIn t ts → ⊥) → IsIn s ts → same_subtask t s ≡ false
another_by t s ts true same out has = absurd (out (subst (λ (u : SubtaskId). IsIn u ts) (sym ((same_subtask-Decides t s).0 same)) has))
another_by t s ts false other out has = other

another : (t s : SubtaskId) (ts : List SubtaskId) → (IsIn t ts → ⊥) → IsIn s ts → same_subtask t s ≡ false
another t s ts = another_by t s ts (same_subtask t s) refl

-- the first of the list has its turns, and nothing behind them
of_first : (turns : Turns) (t s : SubtaskId) (ts : List SubtaskId) (us : List Turn) → (IsIn t ts → ⊥) → t ≡ s → of s (map (by t) us ++ one_by_one turns ts) ≡ us
of_first turns t s ts us out same = grind (arith, common_steps, append-nil, in_or_not, not_in, of_by_here)

-- and each other one has all of its own
pub of_later : (job : Job) (turns : Turns) (s : SubtaskId) (ts : List SubtaskId) → IsDownstreamFirst job ts → IsIn s ts → of s (one_by_one turns ts) ≡ turns s
of_later job turns s [] order has = absurd has
of_later job turns s (t ∷ ts) order (inl same) = of_first turns t s ts (turns t) order.1 (sym same) ∙ ap turns (sym same)
of_later job turns s (t ∷ ts) order (inr has) = of_by_there t s (turns t) (one_by_one turns ts) (another t s ts order.1 has) ∙ of_later job turns s ts order.0 has

upstream : (job : Job) (ts : List SubtaskId) (c : Channel) → IsDownstreamFirst job ts → IsIn c job.channels → IsIn c.receiver ts → IsIn c.sender ts
upstream job [] c order has there = absurd there
upstream job (t ∷ ts) c order has (inl same) = inr (order.2 c has same)
upstream job (t ∷ ts) c order has (inr there) = inr (upstream job ts c order.0 has there)

-- what channels give

abbrev pub sent_by : Job → States → Channel → List Turn → List Item
sent_by job from c turns = let t : SubtaskId = c.sender in sent c.output (opened (job.inputs t)) (actions (job.program t) (from t) (opened (job.inputs t)) turns)

abbrev pub taken_by : Job → States → Channel → List Turn → List Item
taken_by job from c turns = let t : SubtaskId = c.receiver in taken c.input (opened (job.inputs t)) (actions (job.program t) (from t) (opened (job.inputs t)) turns)

-- what the receiver took in all is a beginning of what the sender put there in all
abbrev pub Carries : Job → States → Turns → Channel → Type 0
Carries job from turns c = (on_the_way : List Item) × (sent_by job from c (turns c.sender) ≡ taken_by job from c (turns c.receiver) ++ on_the_way)

-- so it is with what the receiver took until then, once the sender has taken all its turns
gives_some : (job : Job) (from : States) (turns : Turns) (c : Channel) (before now : History) (more : List Turn) → Carries job from turns c → of c.sender before ≡ turns c.sender
    → turns c.receiver ≡ more ++ of c.receiver now → GivesInOrder (network job from before) (network job from now) c
gives_some job from turns c before now more carries put took = grind (arith, common_steps, append_assoc, at_of, taken_more)

-- and if the receiver has taken no turn
gives_none : (job : Job) (from : States) (c : Channel) (before now : History) → of c.receiver now ≡ [] → GivesInOrder (network job from before) (network job from now) c
gives_none job from c before now none =
    let put : List Item = sent_on (network job from before) c in
    (put, ap (λ (l : List Turn). taken_by job from c l ++ put) (sym none))

gives_by : (job : Job) (from : States) (turns : Turns) (t : SubtaskId) (ts : List SubtaskId) (u : Turn) (more us : List Turn) (c : Channel) (b : Bool) → same_subtask t c.receiver ≡ b
    → IsInOrNot turns c.receiver ts → IsDownstreamFirst job (t ∷ ts) → IsIn c job.channels → Carries job from turns c → turns t ≡ more ++ u ∷ us
    → GivesInOrder (network job from (map (by t) us ++ one_by_one turns ts)) (network job from (by t u ∷ map (by t) us ++ one_by_one turns ts)) c
gives_by job from turns t ts u more us c true e is order has carries at =
    let h : History = one_by_one turns ts in
    let same : t ≡ c.receiver = (same_subtask-Decides t c.receiver).0 e in
    let sender : IsIn c.sender ts = order.2 c has (sym same) in
    gives_some job from turns c (map (by t) us ++ h) (by t u ∷ map (by t) us ++ h) more carries
    (of_by_there t c.sender us h (another t c.sender ts order.1 sender) ∙ of_later job turns c.sender ts order.0 sender)
    (ap turns (sym same) ∙ at ∙ ap (λ l. more ++ l) (sym (of_first turns t c.receiver ts (u ∷ us) order.1 same)))
gives_by job from turns t ts u more us c false other (inl there) order has carries at =
    let h : History = one_by_one turns ts in
    let sender : IsIn c.sender ts = upstream job ts c order.0 has there in
    gives_some job from turns c (map (by t) us ++ h) (by t u ∷ map (by t) us ++ h) [] carries
    (of_by_there t c.sender us h (another t c.sender ts order.1 sender) ∙ of_later job turns c.sender ts order.0 sender)
    (sym (of_by_there t c.receiver (u ∷ us) h other ∙ of_later job turns c.receiver ts order.0 there))
gives_by job from turns t ts u more us c false other (inr none) order has carries at =
    let h : History = one_by_one turns ts in
    gives_none job from c (map (by t) us ++ h) (by t u ∷ map (by t) us ++ h) (of_by_there t c.receiver (u ∷ us) h other ∙ none)

in_middle : (more : List Turn) (u : Turn) (us : List Turn) → IsIn u (more ++ u ∷ us)
in_middle [] u us = inl refl
in_middle (v ∷ more) u us = inr (in_middle more u us)

grows : (job : Job) (from : States) (turns : Turns) (t : SubtaskId) (ts : List SubtaskId) (more us : List Turn) → IsDownstreamFirst job (t ∷ ts)
    → ((u : Turn) → IsIn u (turns t) → IsTurnOf job t u) → ((c : Channel) → IsIn c job.channels → Carries job from turns c) → IsHistory job from (one_by_one turns ts)
    → turns t ≡ more ++ us → IsHistory job from (map (by t) us ++ one_by_one turns ts)
grows job from turns t ts more [] order are carry before at = before
grows job from turns t ts more (u ∷ us) order are carry before at = (
  grows job from turns t ts (more ++ u ∷ []) us order are carry before (at ∙ sym (append_assoc more (u ∷ []) us)),
  are u (subst (λ (l : List Turn). IsIn u l) (sym at) (in_middle more u us)),
  λ c has. gives_by job from turns t ts u more us c (same_subtask t c.receiver) refl (in_or_not turns c.receiver ts) order has (carry c has) at,
)

pub is_history : (job : Job) (from : States) (turns : Turns) (ts : List SubtaskId) → IsDownstreamFirst job ts → ((t : SubtaskId) (u : Turn) → IsIn t ts → IsIn u (turns t) → IsTurnOf job t u)
    → ((c : Channel) → IsIn c job.channels → Carries job from turns c) → IsHistory job from (one_by_one turns ts)
is_history job from turns [] order are carry = tt
is_history job from turns (t ∷ ts) order are carry =
    grows job from turns t ts [] (turns t) order (λ u. are t u (inl refl)) carry (is_history job from turns ts order.0 (λ s u has. are s u (inr has)) carry) refl
