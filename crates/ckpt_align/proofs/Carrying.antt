-- What a channel carries from the sender's cut of a record to the receiver's.
use Rattle.ckpt_align.proofs.Names.{◌≡◌, ℕ, ◌<◌, Bool, true, false, List, [], ◌∷◌, ◌++◌, ◌∙◌, length, refl, sym, ap, arith, cases_Bool, common_steps, append-nil, append_assoc, Option, Some, None}
use Rattle.ckpt_align.proofs.Names.{Open, Alignment, opened, Item, Element, Action, Reads, GivesUp, Sends, Ends, after, barriers, before, before_cut, cut_by, elements, has_cut, has_ended, is_number, processed, sent, sent_by, taken, taken_by}
use Rattle.ckpt_align.proofs.ItemLemmas.{Runs, elements-append, runs_none, runs_on, runs_past, runs-append, runs_not_fixed}
use Rattle.ckpt_align.proofs.InputLemmas.{length-replicate}
use Rattle.ckpt_align.proofs.Fitting.{Fits, opened_fits, action_fits}
use Rattle.ckpt_align.proofs.Cutting.{cut_stops, cut_takes_none, length-after}
use Rattle.ckpt_align.specs.Laws.{GlobalCut, Task, Network, Channel, IsInOrder, IsConnected, HasCut, HasCutOrEnded}
use Rattle.std.specs.Prelude.{if◌then◌else◌, ◌==◌, ◌⊎◌}
use Rattle.std.proofs.Common.{inl, inr}

-- the sender

pub elements-barriers : (o : Option ℕ) (items : List Item) → elements (barriers o ++ items) ≡ elements items
elements-barriers None items = refl
elements-barriers (Some m) items = refl

pub before-its_barrier : (n : ℕ) (o : Option ℕ) (items : List Item) → is_number n o ≡ true → before n (barriers o ++ items) ≡ []
before-its_barrier n None items e = grind (arith, common_steps)
before-its_barrier n (Some m) items e = grind (arith, common_steps)

pub before-other_barrier : (n : ℕ) (o : Option ℕ) (items : List Item) → is_number n o ≡ false → before n (barriers o ++ items) ≡ before n items
before-other_barrier n None items e = refl
before-other_barrier n (Some m) items e = grind (arith, common_steps)

-- what it sent before its cut is what its output carries before the barrier
pub sent_before : (n c : ℕ) (a : Alignment) (actions : List Action) → elements (sent c a (before_cut n a actions)) ≡ before n (sent c a actions)
sent_before n c a [] = refl
sent_before n c a (Ends ∷ actions) = refl
sent_before n c a (Sends output x ∷ actions) = grind (arith, common_steps, sent_before n c a actions, cases_Bool (output == c))
sent_before n c a (GivesUp id ∷ actions) =
    let o : Option ℕ = cut_by a (GivesUp id) in
    let b : Alignment = after a (GivesUp id) in
    grind (arith, common_steps, sent_before n c b actions, cases_Bool (is_number n o), elements-barriers o (sent c b (before_cut n b actions)), before-its_barrier n o (sent c b actions), before-other_barrier n o (sent c b actions))
sent_before n c a (Reads i item ∷ actions) =
    let o : Option ℕ = cut_by a (Reads i item) in
    let b : Alignment = after a (Reads i item) in
    grind (arith, common_steps, sent_before n c b actions, cases_Bool (is_number n o), elements-barriers o (sent c b (before_cut n b actions)), before-its_barrier n o (sent c b actions), before-other_barrier n o (sent c b actions))

-- the receiver

pub is_number-Some : (n : ℕ) (o : Option ℕ) → is_number n o ≡ true → o ≡ Some n
is_number-Some n None e = grind (arith, common_steps)
is_number-Some n (Some m) e = grind (arith, common_steps)

-- one action more
abbrev ComesTo : ℕ → ℕ → Alignment → List Item → List Item → List Action → List Action → Type 0
ComesTo n j a c rest actions part = before n (c ++ (taken j a actions ++ rest)) ≡ elements c ++ elements (taken j a part)

one_more : (n j : ℕ) (a : Alignment) (c rest : List Item) (action : Action) (actions part : List Action) (is_cut has : Bool) → is_number n (cut_by a action) ≡ is_cut → Fits j a c → j < length a.inputs
    → (if is_cut then true else has) ≡ true
    → (has ≡ true → ComesTo n j (after a action) (c ++ taken_by j a action) rest actions part)
    → ComesTo n j a c rest (action ∷ actions) (if is_cut then [] else action ∷ part)
one_more n j a c rest action actions part true has at h within e then_more =
    let cut : cut_by a action ≡ Some n = is_number-Some n (cut_by a action) at in
    let b : Alignment = after a action in
    let stops = cut_stops j n a action c cut h within (taken j b actions ++ rest) in
    grind (arith, common_steps, stops, append_assoc c (taken_by j a action) (taken j b actions ++ rest), append_assoc (taken_by j a action) (taken j b actions) rest, append-nil, elements-append c (taken_by j a action), cut_takes_none j n a action cut)
one_more n j a c rest action actions part false has at h within e then_more =
    let b : Alignment = after a action in
    let more = then_more e in
    grind (arith, common_steps, more, append_assoc c (taken_by j a action) (taken j b actions ++ rest), append_assoc (taken_by j a action) (taken j b actions) rest, elements-append c (taken_by j a action), elements-append (taken_by j a action) (taken j b part), append_assoc (elements c) (elements (taken_by j a action)) (elements (taken j b part)))

comes_to : (n j : ℕ) (a : Alignment) (c rest : List Item) (actions : List Action) → Fits j a c → j < length a.inputs → has_cut n a actions ≡ true → ComesTo n j a c rest actions (before_cut n a actions)
comes_to n j a c rest [] h within e = grind (arith, common_steps)
comes_to n j a c rest (Ends ∷ actions) h within e = grind (arith, common_steps)
comes_to n j a c rest (Sends output x ∷ actions) h within e =
    let action : Action = Sends output x in
    let b : Alignment = after a action in
    one_more n j a c rest action actions (before_cut n b actions) (is_number n (cut_by a action)) (has_cut n b actions) refl h within e
    (λ k. comes_to n j b (c ++ taken_by j a action) rest actions (action_fits j a action c h) (rw (length-after a action) within) k)
comes_to n j a c rest (GivesUp id ∷ actions) h within e =
    let action : Action = GivesUp id in
    let b : Alignment = after a action in
    one_more n j a c rest action actions (before_cut n b actions) (is_number n (cut_by a action)) (has_cut n b actions) refl h within e
    (λ k. comes_to n j b (c ++ taken_by j a action) rest actions (action_fits j a action c h) (rw (length-after a action) within) k)
comes_to n j a c rest (Reads i item ∷ actions) h within e =
    let action : Action = Reads i item in
    let b : Alignment = after a action in
    one_more n j a c rest action actions (before_cut n b actions) (is_number n (cut_by a action)) (has_cut n b actions) refl h within e
    (λ k. comes_to n j b (c ++ taken_by j a action) rest actions (action_fits j a action c h) (rw (length-after a action) within) k)

-- what it processed before its cut is what its input carries before the barrier
pub processed_before : (n j inputs : ℕ) (actions : List Action) (rest : List Item) → j < inputs → has_cut n (opened inputs) actions ≡ true
    → processed j (opened inputs) (before_cut n (opened inputs) actions) ≡ before n (taken j (opened inputs) actions ++ rest)
processed_before n j inputs actions rest within e = sym (comes_to n j (opened inputs) [] rest actions (opened_fits inputs j) (rw (length-replicate inputs Open) within) e)

-- the channel
channel_is_consistent : (n : ℕ) (w : Network) (c : Channel) → IsConnected w c → IsInOrder w c → HasCut n (w.task c.receiver)
    → processed c.input (opened (w.task c.receiver).inputs) (before_cut n (opened (w.task c.receiver).inputs) (w.task c.receiver).actions)
    ≡ elements (sent c.output (opened (w.task c.sender).inputs) (before_cut n (opened (w.task c.sender).inputs) (w.task c.sender).actions))
channel_is_consistent n w c connected in_order cut =
    let to : Task = w.task c.receiver in
    let from : Task = w.task c.sender in
    processed_before n c.input to.inputs to.actions in_order.0 connected cut
    ∙ ap (before n) (sym in_order.1)
    ∙ sym (sent_before n c.output (opened from.inputs) from.actions)

-- and its sender has cut the record, or has ended

barriers_run : (n : ℕ) (o : Option ℕ) → is_number n o ≡ false → Runs n (barriers o)
barriers_run n None e = runs_none n
barriers_run n (Some m) e = runs_past n m [] (λ same. grind (arith, common_steps)) (runs_none n)

not_cut : (is_cut has : Bool) → (if is_cut then true else has) ≡ false → (is_cut ≡ false) × (has ≡ false)
not_cut true has e = grind (arith, common_steps)
not_cut false has e = (refl, e)

not_cut_runs : (n c : ℕ) (a : Alignment) (actions : List Action) → has_cut n a actions ≡ false → has_ended actions ≡ false → Runs n (sent c a actions)
not_cut_runs n c a [] e f = runs_none n
not_cut_runs n c a (Ends ∷ actions) e f = grind (arith, common_steps)
not_cut_runs n c a (Sends output x ∷ actions) e f = runs-append n (sent_by c a (Sends output x)) (sent c a actions) (element_runs (output == c)) (not_cut_runs n c a actions e f)
  where
    element_runs : (is_this : Bool) → Runs n (if is_this then Element x ∷ [] else [])
    element_runs true = runs_on n [] x (runs_none n)
    element_runs false = runs_none n
not_cut_runs n c a (GivesUp id ∷ actions) e f =
    let o : Option ℕ = cut_by a (GivesUp id) in
    let b : Alignment = after a (GivesUp id) in
    let k = not_cut (is_number n o) (has_cut n b actions) e in
    runs-append n (barriers o) (sent c b actions) (barriers_run n o k.0) (not_cut_runs n c b actions k.1 f)
not_cut_runs n c a (Reads i item ∷ actions) e f =
    let o : Option ℕ = cut_by a (Reads i item) in
    let b : Alignment = after a (Reads i item) in
    let k = not_cut (is_number n o) (has_cut n b actions) e in
    runs-append n (barriers o) (sent c b actions) (barriers_run n o k.0) (not_cut_runs n c b actions k.1 f)

-- after what the receiver took by its cut, nothing has an effect; so after what was sent nothing has
sent_is_fixed : (n : ℕ) (all from on_the_way : List Item) (xs : List ℕ) → ((rest : List Item) → before n (from ++ rest) ≡ xs) → all ≡ from ++ on_the_way → (rest : List Item) → before n (all ++ rest) ≡ xs
sent_is_fixed n all from on_the_way xs fixed e rest = ap (λ items. before n (items ++ rest)) e ∙ ap (before n) (append_assoc from on_the_way rest) ∙ fixed (on_the_way ++ rest)

sender_has_cut : (n : ℕ) (w : Network) (c : Channel) → IsConnected w c → IsInOrder w c → HasCut n (w.task c.receiver) → HasCutOrEnded n (w.task c.sender)
sender_has_cut n w c connected in_order cut =
    let to : Task = w.task c.receiver in
    let from : Task = w.task c.sender in
    let fixed = sent_is_fixed n (sent c.output (opened from.inputs) from.actions) (taken c.input (opened to.inputs) to.actions) in_order.0 (processed c.input (opened to.inputs) (before_cut n (opened to.inputs) to.actions))
    (λ rest. sym (processed_before n c.input to.inputs to.actions rest connected cut)) in_order.1 in
    either_way (has_cut n (opened from.inputs) from.actions) (has_ended from.actions)
    (λ e f. runs_not_fixed n (sent c.output (opened from.inputs) from.actions) (processed c.input (opened to.inputs) (before_cut n (opened to.inputs) to.actions)) (not_cut_runs n c.output (opened from.inputs) from.actions e f) fixed)
  where
    either_way : (has ended : Bool) → (has ≡ false → ended ≡ false → ⊥) → (has ≡ true) ⊎ (ended ≡ true)
    either_way true ended never = inl refl
    either_way false true never = inr refl
    either_way false false never = absurd (never refl refl)

pub global_cut : (n : ℕ) (w : Network) → GlobalCut n w
global_cut n w all = (
  λ c has. let of_it = all c has in channel_is_consistent n w c of_it.0 of_it.1 of_it.2,
  λ c has. let of_it = all c has in sender_has_cut n w c of_it.0 of_it.1 of_it.2,
)
