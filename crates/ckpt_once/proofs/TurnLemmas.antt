-- A task's turns, as moves and as actions.
use Rattle.ckpt_once.proofs.Names.{◌≡◌, ℕ, Bool, true, false, ◌||◌, List, ◌∷◌, ◌++◌, ◌∙◌, refl, sym, ap, arith, if◌then◌else◌, Option, Some, [], None, ◌==◌, ◌&&◌, cases_Bool, or_parts}
use Rattle.ckpt_once.proofs.Names.{common_steps, append-nil, Alignment, Item, Element, Barrier, End, Action, Reads, GivesUp, after, answer_to, is_taken, cut_as, replay, taken, sent}
use Rattle.ckpt_once.proofs.Names.{elements, before_cut, has_cut, has_ended, cut_by, is_number, elements-barriers, elements-append, Move, Takes, Draws, Emitted, Program, state, emitted}
use Rattle.ckpt_once.proofs.Names.{on_output, from_input, Turn, Offered, GivenUp, Drawn, Ended, told, move_in, with_one, aligned, moves_in, emitted_by, sendings, acts, actions}
use Rattle.ckpt_once.proofs.ActionLemmas.{replay-append, taken-append, sent-append, stopped, stopped-append, before-append, before_all, before_stays}

-- sending changes nothing in an aligner

replay_sendings : (a : Alignment) (es : List Emitted) → replay a (sendings es) ≡ a
replay_sendings a [] = refl
replay_sendings a (e ∷ es) = replay_sendings a es

pub taken_sendings : (j : ℕ) (a : Alignment) (es : List Emitted) → taken j a (sendings es) ≡ []
taken_sendings j a [] = refl
taken_sendings j a (e ∷ es) = taken_sendings j a es

has_cut_sendings : (n : ℕ) (a : Alignment) (es : List Emitted) → has_cut n a (sendings es) ≡ false
has_cut_sendings n a [] = refl
has_cut_sendings n a (e ∷ es) = has_cut_sendings n a es

pub has_ended_sendings : (es : List Emitted) → has_ended (sendings es) ≡ false
has_ended_sendings [] = refl
has_ended_sendings (e ∷ es) = has_ended_sendings es

sent_sendings : (c : ℕ) (a : Alignment) (es : List Emitted) → elements (sent c a (sendings es)) ≡ on_output c es
sent_sendings c a [] = refl
sent_sendings c a (e ∷ es) = grind (arith, common_steps, sent_sendings c a es, cases_Bool (e.output == c))

-- the aligner

pub aligned_is : (p : Program) (s : ℕ) (a : Alignment) (turns : List Turn) → replay a (actions p s a turns) ≡ aligned a turns
aligned_is p s a [] = grind (arith, common_steps)
aligned_is p s a (turn ∷ turns) = grind (arith, common_steps, replay-append, replay_sendings, aligned_is p s a turns)

-- what is taken

taken_element : (j i x : ℕ) (is : Bool) (rest : List Item) → rest ≡ [] → elements ((if (i == j) && is then Element x ∷ [] else []) ++ rest) ≡ from_input j (with_one (if is then Some (Takes i x) else None) [])
taken_element j i x is rest e = grind (arith, common_steps, cases_Bool (i == j), cases_Bool is)

taken_barrier : (b : Bool) (n : ℕ) (rest : List Item) → rest ≡ [] → elements ((if b then Barrier n ∷ [] else []) ++ rest) ≡ []
taken_barrier true n rest e = ap elements e
taken_barrier false n rest e = ap elements e

taken_end : (b : Bool) (rest : List Item) → rest ≡ [] → elements ((if b then End ∷ [] else []) ++ rest) ≡ []
taken_end true rest e = ap elements e
taken_end false rest e = ap elements e

taken_turn : (j : ℕ) (b : Alignment) (turn : Turn) (es : List Emitted) → elements (taken j b (told turn ++ sendings es)) ≡ from_input j (with_one (move_in b turn) [])
taken_turn j b (Offered i (Element x)) es = taken_element j i x (is_taken (answer_to b i (Element x))) (taken j (after b (Reads i (Element x))) (sendings es)) (taken_sendings j (after b (Reads i (Element x))) es)
taken_turn j b (Offered i (Barrier n)) es = taken_barrier ((i == j) && is_taken (answer_to b i (Barrier n))) n (taken j (after b (Reads i (Barrier n))) (sendings es)) (taken_sendings j (after b (Reads i (Barrier n))) es)
taken_turn j b (Offered i End) es = taken_end ((i == j) && is_taken (answer_to b i End)) (taken j (after b (Reads i End)) (sendings es)) (taken_sendings j (after b (Reads i End)) es)
taken_turn j b (GivenUp id) es = ap elements (taken_sendings j (after b (GivesUp id)) es)
taken_turn j b Drawn es = ap elements (taken_sendings j b es)
taken_turn j b Ended es = ap elements (taken_sendings j b es)

from_input-one : (j : ℕ) (o : Option Move) (moves : List Move) → from_input j (with_one o moves) ≡ from_input j moves ++ from_input j (with_one o [])
from_input-one j None moves = sym (append-nil (from_input j moves))
from_input-one j (Some (Takes i x)) moves = refl
from_input-one j (Some Draws) moves = sym (append-nil (from_input j moves))

pub taken_is : (j : ℕ) (p : Program) (s : ℕ) (a : Alignment) (turns : List Turn) → elements (taken j a (actions p s a turns)) ≡ from_input j (moves_in a turns)
taken_is j p s a [] = grind (arith, common_steps)
taken_is j p s a (turn ∷ turns) = grind (arith, common_steps, aligned_is, elements-append, from_input-one, taken-append, taken_turn, taken_is j p s a turns)

-- what is sent

sent_turn : (c : ℕ) (b : Alignment) (turn : Turn) (es : List Emitted) → elements (sent c b (told turn ++ sendings es)) ≡ on_output c es
sent_turn c b (Offered i item) es = elements-barriers (cut_as (answer_to b i item)) (sent c (after b (Reads i item)) (sendings es)) ∙ sent_sendings c (after b (Reads i item)) es
sent_turn c b (GivenUp id) es = elements-barriers (cut_by b (GivesUp id)) (sent c (after b (GivesUp id)) (sendings es)) ∙ sent_sendings c (after b (GivesUp id)) es
sent_turn c b Drawn es = sent_sendings c b es
sent_turn c b Ended es = sent_sendings c b es

pub on_output-append : (c : ℕ) (es fs : List Emitted) → on_output c (es ++ fs) ≡ on_output c es ++ on_output c fs
on_output-append c [] fs = refl
on_output-append c (e ∷ es) fs = grind (arith, common_steps, on_output-append c es fs, cases_Bool (e.output == c))

emitted-one : (p : Program) (s : ℕ) (o : Option Move) (moves : List Move) → emitted p s (with_one o moves) ≡ emitted p s moves ++ emitted_by p (state p s moves) o
emitted-one p s None moves = sym (append-nil (emitted p s moves))
emitted-one p s (Some move) moves = refl

pub sent_is : (c : ℕ) (p : Program) (s : ℕ) (a : Alignment) (turns : List Turn) → elements (sent c a (actions p s a turns)) ≡ on_output c (emitted p s (moves_in a turns))
sent_is c p s a [] = grind (arith, common_steps)
sent_is c p s a (turn ∷ turns) = grind (arith, common_steps, aligned_is, elements-append, emitted-one, on_output-append, sent-append, sent_turn, sent_is c p s a turns)

-- the turns before a cut

abbrev pub turns_before : ℕ → Program → ℕ → Alignment → List Turn → List Turn
turns_before n p s a [] = []
turns_before n p s a (turn ∷ turns) = if stopped n a (actions p s a (turn ∷ turns)) then turns_before n p s a turns else turn ∷ turns_before n p s a turns

stopped_reads : (n : ℕ) (cut : Bool) (b : Alignment) (x : Action) (es : List Emitted) → ((if cut then true else has_cut n b (sendings es)) || has_ended (sendings es)) ≡ true → (if cut then [] else x ∷ before_cut n b (sendings es)) ≡ []
stopped_reads n true b x es e = refl
stopped_reads n false b x es e = grind (arith, common_steps, has_cut_sendings n b es, has_ended_sendings es)

-- a turn that stops a task leaves nothing before the cut
stopped_turn : (n : ℕ) (b : Alignment) (turn : Turn) (es : List Emitted) → stopped n b (told turn ++ sendings es) ≡ true → before_cut n b (told turn ++ sendings es) ≡ []
stopped_turn n b (Offered i item) es e = stopped_reads n (is_number n (cut_by b (Reads i item))) (after b (Reads i item)) (Reads i item) es e
stopped_turn n b (GivenUp id) es e = stopped_reads n (is_number n (cut_by b (GivesUp id))) (after b (GivesUp id)) (GivesUp id) es e
stopped_turn n b Drawn es e = grind (arith, common_steps, has_cut_sendings n b es, has_ended_sendings es)
stopped_turn n b Ended es e = refl

-- a task that has not stopped has only turns before its cut
pub turns_all : (n : ℕ) (p : Program) (s : ℕ) (a : Alignment) (turns : List Turn) → stopped n a (actions p s a turns) ≡ false → turns_before n p s a turns ≡ turns
turns_all n p s a [] e = grind (arith, common_steps)
turns_all n p s a (turn ∷ turns) e = grind (arith, common_steps, or_parts, stopped, stopped-append, turns_all n p s a turns)

before_is_by : (n : ℕ) (p : Program) (s : ℕ) (a : Alignment) (turns : List Turn) (turn : Turn) (es : List Emitted) (b c : Bool) → stopped n a (actions p s a turns) ≡ b → stopped n (replay a (actions p s a turns)) (told turn ++ sendings es) ≡ c
    → acts p (state p s (moves_in a turns)) (aligned a turns) turn ≡ told turn ++ sendings es
    → before_cut n a (actions p s a turns) ≡ actions p s a (turns_before n p s a turns)
    → before_cut n a (actions p s a turns ++ (told turn ++ sendings es))
    ≡ actions p s a (if stopped n a (actions p s a turns ++ (told turn ++ sendings es)) then turns_before n p s a turns else turn ∷ turns_before n p s a turns)
before_is_by n p s a turns turn es true c e f z h = grind (arith, common_steps, before_stays, stopped, stopped-append)
before_is_by n p s a turns turn es false true e f z h = grind (arith, common_steps, append-nil, before-append, before_all, stopped, stopped-append, stopped_turn)
before_is_by n p s a turns turn es false false e f z h = grind (arith, common_steps, before-append, before_all, stopped, stopped-append, turns_all)

pub before_is : (n : ℕ) (p : Program) (s : ℕ) (a : Alignment) (turns : List Turn) → before_cut n a (actions p s a turns) ≡ actions p s a (turns_before n p s a turns)
before_is n p s a [] = grind (arith, common_steps)
before_is n p s a (turn ∷ turns) = grind (arith, common_steps, before_is_by, stopped, before_is n p s a turns)
