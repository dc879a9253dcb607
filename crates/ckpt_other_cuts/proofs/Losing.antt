-- Tasks that do not hold lose nothing.
use Rattle.ckpt_other_cuts.proofs.Names.{common_steps, arith, ◌≡◌, ℕ, ◌<◌, Bool, true, false, List, ◌∷◌, ◌++◌, ◌∙◌, refl, sym, ap, if◌then◌else◌, Some, [], ◌==◌, ◌&&◌, both_ways, append-nil}
use Rattle.ckpt_other_cuts.proofs.Names.{append_assoc, Call, Alignment, Item, Element, Barrier, End, Action, GivesUp, Ends, after, answer_to, before, before_cut, cut_by, elements, has_cut}
use Rattle.ckpt_other_cuts.proofs.Names.{is_number, is_taken, processed, replay, sent, taken, taken_by, Channel, HasCut, IsConnected, Network, Task, is_number-Some, sent_before, local_cut}
use Rattle.ckpt_other_cuts.proofs.Names.{reads_cut-element, elements-append, runs_not_fixed, has_cut-from_done, AreCalls, CanOpen, Opening, prefix_like, AtLeastOnce, DoneLosesNone}
use Rattle.ckpt_other_cuts.proofs.Names.{LosesNone, LosesNoneBetween, is_answer, let_by, let_through, has_stop}
use Rattle.ckpt_other_cuts.proofs.Stopping.{before_begins, closed, runs}
use Rattle.ckpt_align.specs.Alignment.{opened}
use Rattle.ckpt_align.specs.Histories.{Reads, Sends}
use Rattle.ckpt_other_cuts.specs.Loose.{IsInOrder}

-- a task that holds and one that does not take the same barriers and ends

abbrev marks : List Item → List Item
marks [] = []
marks (Element x ∷ c) = marks c
marks (Barrier m ∷ c) = Barrier m ∷ marks c
marks (End ∷ c) = End ∷ marks c

marks-append : (c d : List Item) → marks (c ++ d) ≡ marks c ++ marks d
marks-append [] d = refl
marks-append (Element x ∷ c) d = marks-append c d
marks-append (Barrier m ∷ c) d = ap (λ l. Barrier m ∷ l) (marks-append c d)
marks-append (End ∷ c) d = ap (λ l. End ∷ l) (marks-append c d)

stop_marks : (n : ℕ) (c : List Item) → has_stop n c ≡ has_stop n (marks c)
stop_marks n [] = refl
stop_marks n (Element x ∷ c) = stop_marks n c
stop_marks n (Barrier m ∷ c) = ap (λ s. if m == n then true else s) (stop_marks n c)
stop_marks n (End ∷ c) = refl

no_marks : (b : Bool) (x : ℕ) → marks (if b then Element x ∷ [] else []) ≡ []
no_marks true x = refl
no_marks false x = refl

same_by : (j : ℕ) (a : Alignment) (action : Action) → marks (let_by j a action) ≡ marks (taken_by j a action)
same_by j a (Reads i (Element x)) = no_marks ((i == j) && is_answer (answer_to a i (Element x))) x ∙ sym (no_marks ((i == j) && is_taken (answer_to a i (Element x))) x)
same_by j a (Reads i (Barrier m)) = refl
same_by j a (Reads i End) = refl
same_by j a (GivesUp id) = refl
same_by j a (Sends output x) = refl
same_by j a Ends = refl

same_marks : (j : ℕ) (a : Alignment) (actions : List Action) → marks (let_through j a actions) ≡ marks (taken j a actions)
same_marks j a [] = refl
same_marks j a (action ∷ actions) =
    marks-append (let_by j a action) (let_through j (after a action) actions)
    ∙ ap (λ l. l ++ marks (let_through j (after a action) actions)) (same_by j a action)
    ∙ ap (λ l. marks (taken_by j a action) ++ l) (same_marks j (after a action) actions)
    ∙ sym (marks-append (taken_by j a action) (taken j (after a action) actions))

same_stop : (n j : ℕ) (a : Alignment) (actions : List Action) → has_stop n (let_through j a actions) ≡ has_stop n (taken j a actions)
same_stop n j a actions = stop_marks n (let_through j a actions) ∙ ap (has_stop n) (same_marks j a actions) ∙ sym (stop_marks n (taken j a actions))

-- at the cut each input has been stopped

stopped_by : (n : ℕ) (c : List Item) (xs : List ℕ) (s : Bool) → has_stop n c ≡ s → ((rest : List Item) → before n (c ++ rest) ≡ xs) → has_stop n c ≡ true
stopped_by n c xs true e fixed = e
stopped_by n c xs false e fixed = absurd (runs_not_fixed n c xs (runs n c e) fixed)

is_stopped : (inputs : ℕ) (actions : List Action) (action : Action) (n j : ℕ) → cut_by (replay (opened inputs) actions) action ≡ Some n → j < inputs → has_stop n (let_through j (opened inputs) (actions ++ action ∷ [])) ≡ true
is_stopped inputs actions action n j e within =
    let a : Alignment = opened inputs in
    let all : List Action = actions ++ action ∷ [] in
    same_stop n j a all
    ∙ stopped_by n (taken j a all) (processed j a actions) (has_stop n (taken j a all)) refl (λ rest. sym (local_cut inputs actions action n j rest e within))

-- the cut takes no element

no_elements : (b : Bool) (item : Item) → elements (item ∷ []) ≡ [] → elements (if b then item ∷ [] else []) ≡ []
no_elements true item e = e
no_elements false item e = refl

cut_lets_none : (n j : ℕ) (a : Alignment) (action : Action) → cut_by a action ≡ Some n → elements (let_by j a action) ≡ []
cut_lets_none n j a (Reads i (Element x)) e = absurd (reads_cut-element a i x n e)
cut_lets_none n j a (Reads i (Barrier m)) e = no_elements ((i == j) && is_taken (answer_to a i (Barrier m))) (Barrier m) refl
cut_lets_none n j a (Reads i End) e = no_elements ((i == j) && is_taken (answer_to a i End)) End refl
cut_lets_none n j a (GivesUp id) e = refl
cut_lets_none n j a (Sends output x) e = refl
cut_lets_none n j a Ends e = refl

let-append : (j : ℕ) (a : Alignment) (xs ys : List Action) → let_through j a (xs ++ ys) ≡ let_through j a xs ++ let_through j (replay a xs) ys
let-append j a [] ys = refl
let-append j a (x ∷ xs) ys = ap (λ l. let_by j a x ++ l) (let-append j (after a x) xs ys) ∙ sym (append_assoc (let_by j a x) (let_through j (after a x) xs) (let_through j (replay (after a x) xs) ys))

cut_same : (n j : ℕ) (a : Alignment) (actions : List Action) (action : Action) → cut_by (replay a actions) action ≡ Some n → elements (let_through j a (actions ++ action ∷ [])) ≡ elements (let_through j a actions)
cut_same n j a actions action e = grind (arith, common_steps, append-nil, cut_lets_none, elements-append, let-append)

pub loses_none : (inputs : ℕ) (actions : List Action) (action : Action) (n j : ℕ) (rest : List Item) → LosesNone inputs actions action n j rest
loses_none inputs actions action n j rest e within =
    let a : Alignment = opened inputs in
    let c : List Item = let_through j a (actions ++ action ∷ []) in
    prefix_like (before n (c ++ rest)) (before n c) (elements (let_through j a actions)) (elements c)
    (closed n c rest (is_stopped inputs actions action n j e within))
    (sym (cut_same n j a actions action e))
    (before_begins n c)

-- the action that is the cut

abbrev CutAt : ℕ → Alignment → List Action → List Action → Type 0
CutAt n a actions part = (x : Action) × (more : List Action) × (actions ≡ part ++ x ∷ more) × (cut_by (replay a part) x ≡ Some n)

cut_at_by : (n : ℕ) (a : Alignment) (y : Action) (ys part : List Action) (is has : Bool) → is_number n (cut_by a y) ≡ is → (if is then true else has) ≡ true → (has ≡ true → CutAt n (after a y) ys part) → CutAt n a (y ∷ ys) (if is then [] else y ∷ part)
cut_at_by n a y ys part true has e h on = (y, ys, refl, is_number-Some n (cut_by a y) e)
cut_at_by n a y ys part false has e h on = let k : CutAt n (after a y) ys part = on h in (k.0, k.1, ap (λ (l : List Action). y ∷ l) k.2, k.3)

cut_at : (n : ℕ) (a : Alignment) (actions : List Action) → has_cut n a actions ≡ true → CutAt n a actions (before_cut n a actions)
cut_at n a [] h = absurd (both_ways true (sym h) refl)
cut_at n a (Ends ∷ ys) h = absurd (both_ways true (sym h) refl)
cut_at n a (Reads i item ∷ ys) h = let y : Action = Reads i item in cut_at_by n a y ys (before_cut n (after a y) ys) (is_number n (cut_by a y)) (has_cut n (after a y) ys) refl h (cut_at n (after a y) ys)
cut_at n a (GivesUp id ∷ ys) h = let y : Action = GivesUp id in cut_at_by n a y ys (before_cut n (after a y) ys) (is_number n (cut_by a y)) (has_cut n (after a y) ys) refl h (cut_at n (after a y) ys)
cut_at n a (Sends o x ∷ ys) h = let y : Action = Sends o x in cut_at_by n a y ys (before_cut n (after a y) ys) (is_number n (cut_by a y)) (has_cut n (after a y) ys) refl h (cut_at n (after a y) ys)

-- the channel

split_again : (part : List Action) (x : Action) (more : List Action) → part ++ x ∷ more ≡ (part ++ x ∷ []) ++ more
split_again part x more = sym (append_assoc part (x ∷ []) more)

channel : (n : ℕ) (w : Network) (c : Channel) → IsConnected w c → IsInOrder w c → HasCut n (w.task c.receiver) → LosesNoneBetween n w c
channel n w c connected in_order cut =
    let to : Task = w.task c.receiver in
    let from : Task = w.task c.sender in
    let a : Alignment = opened to.inputs in
    let part : List Action = before_cut n a to.actions in
    let k : CutAt n a to.actions part = cut_at n a to.actions cut in
    let first : List Action = part ++ k.0 ∷ [] in
    let later : List Item = let_through c.input (replay a first) k.1 in
    let all : let_through c.input a to.actions ≡ let_through c.input a first ++ later = ap (let_through c.input a) (k.2 ∙ split_again part k.0 k.1) ∙ let-append c.input a first k.1 in
    prefix_like (elements (sent c.output (opened from.inputs) (before_cut n (opened from.inputs) from.actions))) (before n (let_through c.input a first ++ (later ++ in_order.0))) (elements (let_through c.input a part)) (elements (let_through c.input a part))
    (sent_before n c.output (opened from.inputs) from.actions
    ∙ ap (before n) (in_order.1 ∙ ap (λ l. l ++ in_order.0) all ∙ append_assoc (let_through c.input a first) later in_order.0))
    refl
    (loses_none to.inputs part k.0 n c.input (later ++ in_order.0) k.3 connected)

pub at_least_once : (n : ℕ) (w : Network) → AtLeastOnce n w
at_least_once n w all c has = let its = all c has in channel n w c its.0 its.1 its.2

pub done_loses_none : (o : Opening) (calls : List Call) (w : Network) → CanOpen o → AreCalls calls → DoneLosesNone o calls w
done_loses_none o calls w opens are r has done channels acks c among =
    let its = channels c among in
    channel r.id w c its.1 its.2 (has_cut-from_done o calls w r c.receiver opens are has done acks its.0)
