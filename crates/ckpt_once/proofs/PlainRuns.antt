-- A run is a history without barriers.
use Rattle.ckpt_once.proofs.Names.{common_steps, arith, ◌≡◌, ℕ, ◌<◌, Bool, true, false, List, ◌∷◌, ◌++◌, ◌∙◌, refl, sym, ap, subst, if◌then◌else◌, Option, Some, None, replicate, slice_get}
use Rattle.ckpt_once.proofs.Names.{[], ◌==◌, SubtaskId, same_subtask, Input, Open, Alignment, opened, step, element, Item, Element, Reads, after, answer_to, is_taken, cut_as, barriers}
use Rattle.ckpt_once.proofs.Names.{replay, taken, sent, elements, Channel, elements-append, some_at, element_reads-other, get-replicate, length-replicate, reads_cut-element, Move, Takes}
use Rattle.ckpt_once.proofs.Names.{Draws, Emitted, Program, Turn, told, move_in, aligned, sendings, actions, GivesInOrder, IsHistory, IsJob, IsMoveOf, IsPrefix, IsRun, IsTurnOf, Job, Run}
use Rattle.ckpt_once.proofs.Names.{States, network, of, put_on, run_of, taken_off, RunIsHistory, history_of, turn_of}
use Rattle.ckpt_once.proofs.{ActionLemmas.sent-append, ActionLemmas.taken-append, Running.acts_of, Running.put_on_is, Running.taken_off_is}

abbrev turns_of : List Move → List Turn
turns_of [] = []
turns_of (move ∷ moves) = turn_of move ∷ turns_of moves

of_if : (b : Bool) (move : Move) (moves : List Move) (turns : List Turn) → turns ≡ turns_of moves → (if b then turn_of move ∷ turns else turns) ≡ turns_of (if b then move ∷ moves else moves)
of_if true move moves turns e = ap (λ l. turn_of move ∷ l) e
of_if false move moves turns e = e

of_history : (t : SubtaskId) (run : Run) → of t (history_of run) ≡ turns_of (of t run)
of_history t [] = refl
of_history t (step ∷ run) = of_if (same_subtask step.task t) step.what (of t run) (of t (history_of run)) (of_history t run)

-- elements change nothing in an aligner

reads_keeps : (a : Alignment) (i x : ℕ) → after a (Reads i (Element x)) ≡ a
unfolding step
reads_keeps a i x = element_reads-other a (slice_get a.inputs i)

turn_keeps : (a : Alignment) (move : Move) → replay a (told (turn_of move)) ≡ a
turn_keeps a (Takes i x) = reads_keeps a i x
turn_keeps a Draws = refl

aligned_same : (a : Alignment) (moves : List Move) → aligned a (turns_of moves) ≡ a
aligned_same a [] = refl
aligned_same a (move ∷ moves) = turn_keeps (aligned a (turns_of moves)) move ∙ aligned_same a moves

-- each element is taken

element_taken : (a : Alignment) (o : Option Input) → o ≡ Some Open → is_taken (element a o).1 ≡ true
element_taken a o e = ap (λ k. is_taken (element a k).1) e

answer_taken : (a : Alignment) (i x : ℕ) → slice_get a.inputs i ≡ Some Open → is_taken (answer_to a i (Element x)) ≡ true
unfolding step
answer_taken a i x e = element_taken a (slice_get a.inputs i) e

open_at : (inputs i : ℕ) → i < inputs → slice_get (replicate inputs Open) i ≡ Some Open
open_at inputs i h =
    let its = some_at (replicate inputs Open) i (rw (length-replicate inputs Open) h) in
    its.1 ∙ ap Some (get-replicate inputs i Open its.0 its.1)

abbrev IsWithin : ℕ → Move → Type 0
IsWithin inputs (Takes i x) = i < inputs
IsWithin inputs Draws = Unit {0}

moves_on : (inputs : ℕ) (move : Move) → IsWithin inputs move → move_in (opened inputs) (turn_of move) ≡ Some move
moves_on inputs (Takes i x) h = ap (λ b. if b then Some (Takes i x) else None) (answer_taken (opened inputs) i x (open_at inputs i h))
moves_on inputs Draws h = refl

is_within : (job : Job) (t : SubtaskId) (move : Move) → IsJob job → IsMoveOf job t move → IsWithin (job.inputs t) move
is_within job t (Takes i x) is k = grind (arith, common_steps)
is_within job t Draws is k = grind (arith, common_steps)

same_run : (job : Job) (from : States) (run : Run) → IsJob job → IsRun job from run → run_of job (history_of run) ≡ run
same_run job from [] is r = grind (arith, common_steps)
same_run job from (step ∷ run) is r = grind (arith, common_steps, aligned_same, is_within, moves_on, of_history, same_run job from run is r.0)

-- channels carry elements only

abbrev items : List ℕ → List Item
items [] = []
items (x ∷ xs) = Element x ∷ items xs

items-append : (xs ys : List ℕ) → items (xs ++ ys) ≡ items xs ++ items ys
items-append [] ys = refl
items-append (x ∷ xs) ys = ap (λ l. Element x ∷ l) (items-append xs ys)

abbrev AreElements : List Item → Type 0
AreElements l = items (elements l) ≡ l

are_elements-append : (l m : List Item) → AreElements l → AreElements m → AreElements (l ++ m)
are_elements-append l m e f = ap items (elements-append l m) ∙ items-append (elements l) (elements m) ∙ ap (λ k. k ++ items (elements m)) e ∙ ap (λ k. l ++ k) f

one_or_none : (b : Bool) (x : ℕ) → AreElements (if b then Element x ∷ [] else [])
one_or_none true x = refl
one_or_none false x = refl

sendings_sent : (c : ℕ) (a : Alignment) (es : List Emitted) → AreElements (sent c a (sendings es))
sendings_sent c a [] = refl
sendings_sent c a (e ∷ es) = are_elements-append (if e.output == c then Element e.element ∷ [] else []) (sent c a (sendings es)) (one_or_none (e.output == c) e.element) (sendings_sent c a es)

sendings_taken : (j : ℕ) (a : Alignment) (es : List Emitted) → AreElements (taken j a (sendings es))
sendings_taken j a [] = refl
sendings_taken j a (e ∷ es) = sendings_taken j a es

no_barrier : (o : Option ℕ) → ((n : ℕ) → o ≡ Some n → ⊥) → barriers o ≡ []
no_barrier None h = refl
no_barrier (Some n) h = absurd (h n refl)

turn_sent : (c : ℕ) (a : Alignment) (move : Move) (es : List Emitted) → AreElements (sent c a (told (turn_of move) ++ sendings es))
turn_sent c a (Takes i x) es =
    let none : barriers (cut_as (answer_to a i (Element x))) ≡ [] = no_barrier (cut_as (answer_to a i (Element x))) (λ n e. reads_cut-element a i x n e) in
    let Are : List Item → Type 0 = λ l. AreElements (l ++ sent c (after a (Reads i (Element x))) (sendings es)) in
    subst Are (sym none) (sendings_sent c (after a (Reads i (Element x))) es)
turn_sent c a Draws es = sendings_sent c a es

turn_taken : (j : ℕ) (a : Alignment) (move : Move) (es : List Emitted) → AreElements (taken j a (told (turn_of move) ++ sendings es))
turn_taken j a (Takes i x) es = grind (arith, common_steps, are_elements-append, one_or_none, sendings_taken)
turn_taken j a Draws es = grind (arith, common_steps, sendings_taken)

all_sent : (c : ℕ) (p : Program) (s : ℕ) (a : Alignment) (moves : List Move) → AreElements (sent c a (actions p s a (turns_of moves)))
all_sent c p s a [] = grind (arith, common_steps)
all_sent c p s a (move ∷ moves) = grind (arith, common_steps, are_elements-append, sent-append, turn_sent, all_sent c p s a moves)

all_taken : (j : ℕ) (p : Program) (s : ℕ) (a : Alignment) (moves : List Move) → AreElements (taken j a (actions p s a (turns_of moves)))
all_taken j p s a [] = grind (arith, common_steps)
all_taken j p s a (move ∷ moves) = grind (arith, common_steps, are_elements-append, taken-append, turn_taken, all_taken j p s a moves)

in_order : (job : Job) (from : States) (now run : Run) (c : Channel) → run_of job (history_of now) ≡ now → run_of job (history_of run) ≡ run → IsPrefix (taken_off now c) (put_on job from run c)
    → GivesInOrder (network job from (history_of run)) (network job from (history_of now)) c
in_order job from now run c same_now same h =
    let s : SubtaskId = c.sender in
    let t : SubtaskId = c.receiver in
    let gave : List Item = sent c.output (opened (job.inputs s)) (acts_of job from (history_of run) s) in
    let took : List Item = taken c.input (opened (job.inputs t)) (acts_of job from (history_of now) t) in
    let Gave : List Turn → Type 0 = λ turns. AreElements (sent c.output (opened (job.inputs s)) (actions (job.program s) (from s) (opened (job.inputs s)) turns)) in
    let Took : List Turn → Type 0 = λ turns. AreElements (taken c.input (opened (job.inputs t)) (actions (job.program t) (from t) (opened (job.inputs t)) turns)) in
    let gave_elements : AreElements gave = subst Gave (sym (of_history s run)) (all_sent c.output (job.program s) (from s) (opened (job.inputs s)) (of s run)) in
    let took_elements : AreElements took = subst Took (sym (of_history t now)) (all_taken c.input (job.program t) (from t) (opened (job.inputs t)) (of t now)) in
    let put : elements gave ≡ put_on job from run c = sym (put_on_is job from (history_of run) c) ∙ ap (λ r. put_on job from r c) same in
    let off : taken_off now c ≡ elements took = ap (λ r. taken_off r c) (sym same_now) ∙ taken_off_is job from (history_of now) c in
    (items h.0, sym gave_elements ∙ ap items (put ∙ h.1 ∙ ap (λ l. l ++ h.0) off) ∙ items-append (elements took) h.0 ∙ ap (λ l. l ++ items h.0) took_elements)

is_turn : (job : Job) (t : SubtaskId) (move : Move) → IsMoveOf job t move → IsTurnOf job t (turn_of move)
is_turn job t (Takes i x) k = k
is_turn job t Draws k = k

is_history : (job : Job) (from : States) (run : Run) → IsJob job → IsRun job from run → IsHistory job from (history_of run)
is_history job from [] is r = tt
is_history job from (step ∷ run) is r = (
  is_history job from run is r.0,
  is_turn job step.task step.what r.1,
  λ c has. in_order job from (step ∷ run) run c (same_run job from (step ∷ run) is r) (same_run job from run is r.0) (r.2 c has),
)

pub run_is_history : (job : Job) (from : States) (run : Run) → RunIsHistory job from run
run_is_history job from run is r = (is_history job from run is r, same_run job from run is r)
