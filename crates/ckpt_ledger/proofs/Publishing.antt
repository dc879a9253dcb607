-- What a ledger publishes.
use Rattle.std.proofs.Common.{◌≡◌, ℕ, ◌<◌, Bool, true, false, nat_le, if◌then◌else◌, List, ◌∷◌, ◌++◌, map, Option, Some, None, refl, sym, ap, ◌∙◌, append_assoc, append-nil, arith, []}
use Rattle.std.proofs.lemmas.Grind.{common_steps}
use Rattle.ckpt_align.specs.Alignment.{Alignment}
use Rattle.ckpt_align.specs.Histories.{after, cut_by, elements, sent_by}
use Rattle.ckpt_once.specs.Jobs.{History, Job, States}
use Rattle.ckpt_once.specs.Sinks.{Sink, Transaction, above, contents, published, sealed, sealed_at, still_open, up_to}
use Rattle.ckpt_ledger.specs.Ledgers.{Acts, Entry, Held, Moment, Told, Writes, acts, after_entries, all_published, completed, entries, told_of}
use Rattle.ckpt_ledger.specs.Laws.{Holds, PublishesAsSink}
use Rattle.ckpt_ledger.proofs.Timely.{CutsAbove, IsTimely, timely}

-- the first of these, if there is one, was sealed by a later record
abbrev AreLater : ℕ → List Transaction → Type 0
AreLater n [] = Unit {0}
AreLater n (one ∷ ones) = n < one.id

later_by : (n : ℕ) (k : Option ℕ) (w : List ℕ) (rest : List Transaction) → ((m : ℕ) → k ≡ Some m → n < m) → AreLater n rest → AreLater n (sealed_at k w ++ rest)
later_by n None w rest some h = h
later_by n (Some m) w rest some h = some m refl

sealed_later : (o n : ℕ) (a : Alignment) (w : List ℕ) (moments : List Moment) → CutsAbove n a moments → AreLater n (sealed o a w (acts moments))
sealed_later o n a w [] h = tt
sealed_later o n a w (Acts action ∷ moments) h =
    later_by n (cut_by a action) w (sealed o (after a action) (still_open (cut_by a action) (w ++ elements (sent_by o a action))) (acts moments)) h.0
    (sealed_later o n (after a action) (still_open (cut_by a action) (w ++ elements (sent_by o a action))) moments h.1)
sealed_later o n a w (Told m ∷ moments) h = sealed_later o n a w moments h

is_later : (m n : ℕ) → n < m → nat_le m n ≡ false
is_later m n h = grind (arith, common_steps)

none_up_to : (n : ℕ) (later : List Transaction) → AreLater n later → up_to n later ≡ []
none_up_to n [] h = refl
none_up_to n (one ∷ ones) h = ap (λ (b : Bool). if b then one ∷ up_to n ones else []) (is_later one.id n h)

all_above : (n : ℕ) (later : List Transaction) → AreLater n later → above n later ≡ later
all_above n [] h = refl
all_above n (one ∷ ones) h = ap (λ (b : Bool). if b then above n ones else one ∷ ones) (is_later one.id n h)

up_to_by : (b : Bool) (one : Transaction) (xs ys : List Transaction) → xs ≡ ys → (if b then one ∷ xs else []) ≡ (if b then one ∷ ys else [])
up_to_by b one xs ys e = ap (λ (l : List Transaction). if b then one ∷ l else []) e

up_to_front : (n : ℕ) (ones later : List Transaction) → AreLater n later → up_to n (ones ++ later) ≡ up_to n ones
up_to_front n [] later h = none_up_to n later h
up_to_front n (one ∷ ones) later h = up_to_by (nat_le one.id n) one (up_to n (ones ++ later)) (up_to n ones) (up_to_front n ones later h)

above_by : (b : Bool) (one : Transaction) (ones later rest others : List Transaction) → rest ≡ others ++ later
    → (if b then rest else one ∷ (ones ++ later)) ≡ (if b then others else one ∷ ones) ++ later
above_by true one ones later rest others e = e
above_by false one ones later rest others e = refl

above_front : (n : ℕ) (ones later : List Transaction) → AreLater n later → above n (ones ++ later) ≡ above n ones ++ later
above_front n [] later h = all_above n later h
above_front n (one ∷ ones) later h = above_by (nat_le one.id n) one ones later (above n (ones ++ later)) (above n ones) (above_front n ones later h)

-- what is written goes to the open transaction
abbrev with_open : Held → List ℕ → Held
with_open h xs = record { waiting = h.waiting; open_one = h.open_one ++ xs }

writes_published : (h : Held) (xs : List ℕ) (rest : List Entry) → all_published h (map Writes xs ++ rest) ≡ all_published (with_open h xs) rest
writes_published h [] rest = ap (λ (w : List ℕ). all_published (record { waiting = h.waiting; open_one = w }) rest) (sym (append-nil h.open_one))
writes_published h (x ∷ xs) rest =
    writes_published (with_open h (x ∷ [])) xs rest ∙ ap (λ (w : List ℕ). all_published (record { waiting = h.waiting; open_one = w }) rest) (append_assoc h.open_one (x ∷ []) xs)

pub writes_held : (h : Held) (xs : List ℕ) (rest : List Entry) → after_entries h (map Writes xs ++ rest) ≡ after_entries (with_open h xs) rest
writes_held h [] rest = ap (λ (w : List ℕ). after_entries (record { waiting = h.waiting; open_one = w }) rest) (sym (append-nil h.open_one))
writes_held h (x ∷ xs) rest =
    writes_held (with_open h (x ∷ [])) xs rest ∙ ap (λ (w : List ℕ). after_entries (record { waiting = h.waiting; open_one = w }) rest) (append_assoc h.open_one (x ∷ []) xs)

-- what is sealed from here on
abbrev then_sealed : ℕ → Alignment → Held → List Moment → List Transaction
then_sealed o a h moments = h.waiting ++ sealed o a h.open_one (acts moments)

-- of an action, by whether it is a cut
acted : (o : ℕ) (b : Alignment) (moments : List Moment) (k : Option ℕ) (h : Held) (xs : List ℕ)
    → ((g : Held) → all_published g (entries o b moments) ≡ published (completed moments) (then_sealed o b g moments))
    → all_published h (told_of k xs ++ entries o b moments) ≡ published (completed moments) (h.waiting ++ (sealed_at k h.open_one ++ sealed o b (still_open k (h.open_one ++ xs)) (acts moments)))
acted o b moments None h xs rest = grind (arith, common_steps, writes_published)
acted o b moments (Some id) h xs rest = grind (arith, common_steps, append_assoc)

pub published_by : (o : ℕ) (a : Alignment) (moments : List Moment) → IsTimely a moments → (h : Held) → all_published h (entries o a moments) ≡ published (completed moments) (then_sealed o a h moments)
published_by o a [] t h = refl
published_by o a (Acts action ∷ moments) t h =
    acted o (after a action) moments (cut_by a action) h (elements (sent_by o a action)) (published_by o (after a action) moments t)
published_by o a (Told n ∷ moments) t h =
    let later : List Transaction = sealed o a h.open_one (acts moments) in
    let are : AreLater n later = sealed_later o n a h.open_one moments t.0 in
    let rest : Held = record { waiting = above n h.waiting; open_one = h.open_one } in
    ap (λ (l : List ℕ). contents (up_to n h.waiting) ++ l) (published_by o a moments t.1 rest)
    ∙ ap (λ (l : List Transaction). contents l ++ published (completed moments) (above n h.waiting ++ later)) (sym (up_to_front n h.waiting later are))
    ∙ ap (λ (l : List Transaction). contents (up_to n (h.waiting ++ later)) ++ published (completed moments) l) (sym (above_front n h.waiting later are))

pub publishes_as_sink : (job : Job) (from : States) (h : History) (sink : Sink) (moments : List Moment) → PublishesAsSink job from h sink moments
publishes_as_sink job from h sink moments is = grind (arith, common_steps, published_by, timely)

is_cons : (n : ℕ) (ns : List ℕ) → (n ∷ ns) ≡ [] → ⊥
is_cons n ns e = grind (arith, common_steps)

held_acted : (o : ℕ) (b : Alignment) (moments : List Moment) (k : Option ℕ) (h : Held) (xs : List ℕ)
    → ((g : Held) → (after_entries g (entries o b moments)).waiting ≡ then_sealed o b g moments)
    → (after_entries h (told_of k xs ++ entries o b moments)).waiting ≡ h.waiting ++ (sealed_at k h.open_one ++ sealed o b (still_open k (h.open_one ++ xs)) (acts moments))
held_acted o b moments None h xs rest = grind (arith, common_steps, writes_held)
held_acted o b moments (Some id) h xs rest = grind (arith, common_steps, append_assoc)

held_by : (o : ℕ) (a : Alignment) (moments : List Moment) → completed moments ≡ [] → (h : Held) → (after_entries h (entries o a moments)).waiting ≡ then_sealed o a h moments
held_by o a [] none h = sym (append-nil h.waiting)
held_by o a (Acts action ∷ moments) none h =
    held_acted o (after a action) moments (cut_by a action) h (elements (sent_by o a action)) (held_by o (after a action) moments none)
held_by o a (Told n ∷ moments) none h = absurd (is_cons n (completed moments) none)

pub holds : (job : Job) (from : States) (h : History) (sink : Sink) (moments : List Moment) → Holds job from h sink moments
holds job from h sink moments is none = grind (arith, common_steps, held_by)
