-- What follows from a step at a seat that an equation gives.
use Rattle.ckpt_locked.proofs.Names.{Allows, Answer, Asked, Base, Call, Claim, Entered, Entry, HasBook, History, Joins, List, Option, Orderly, Sat, Some, Splits, View, [], ap, append_assoc, arith}
use Rattle.ckpt_locked.proofs.Names.{awaited, committed, compared, drawn, drop, drop-append_seam, either, entry, eqb, fresh, get_or, grown, idle, kept, length, length-append, none, numbered, passed}
use Rattle.ckpt_locked.proofs.Names.{refl, rest, serving, showing, spent, sym, waiting, ℕ, ◌%◌, ◌++◌, ◌+◌, ◌<◌, ◌^◌, ◌∙◌, ◌∷◌, ◌≡◌}
use Rattle.ckpt_locked.proofs.Keeps.{awaits, commits, compares, draws, joins, numbers, passes, splits}
use Rattle.atomic_table.specs.Table.{step}

pub draws_as : (base : Base) (n id : ℕ) (m : Sat) (c : Claim) → m ≡ (idle c, []) → Allows (Orderly base) n id m 1 (λ k. (k + 1) % 2 ^ 64) (drawn (step n 1 1 0 none) m)
draws_as base n id m c e = rw e (draws base n id c)

pub awaits_as : (base : Base) (n id : ℕ) (m : Sat) (c : Claim) (t : ℕ) → n ≡ 1 → m ≡ (waiting c t, []) → Allows (Orderly base) n id m 2 (λ k. k) (awaited (step n 2 0 0 none) m)
awaits_as base n id m c t one e = rw (one, e) (awaits base id c t)

-- the new entry of a book
more : (c : Claim) (was : List Entry) (e : Entry) (b : History) → b ≡ kept c.base (was ++ e ∷ []) → drop (length c.base.book.entries) b.entries ≡ was ++ e ∷ []
more c was e b is = ap (λ (k : History). drop (length c.base.book.entries) k.entries) is ∙ drop-append_seam c.base.book.entries (was ++ e ∷ [])

module _ (m : Sat) (c : Claim) (t : ℕ) (was : List Entry) (e : Entry) (b : History) (here : m ≡ (serving c t was, (0, Some b) ∷ [])) (is : b ≡ kept c.base (was ++ e ∷ [])) where
  pub commits_as : (base : Base) (n id : ℕ) → e.seat ≡ c.number → length was + 1 < 2 ^ 64 → Allows (Orderly base) n id m 0 (λ k. (k + 1) % 2 ^ 64) (committed (step n 0 1 0 none) m)
  commits_as base n id by_me room = rw (here, more c was e b is) (commits base n id c t was e ((0, Some b) ∷ []) by_me room)

  pub committed_is : (n : Sat) → committed (step 1 0 1 0 none) m 0 n → n ≡ (serving (grown c (was ++ e ∷ [])) t (was ++ e ∷ []), (0, Some b) ∷ [])
  committed_is n told = let done = rw here at told in done ∙ ap (λ (l : List Entry). (serving (grown c l) t l, (0, Some b) ∷ [])) (more c was e b is)

pub passes_as : (base : Base) (n id : ℕ) (m : Sat) (c : Claim) (t : ℕ) (log : List Entry) (b : History) → n ≡ 1 → m ≡ (serving c t log, (0, Some b) ∷ []) → b ≡ kept c.base log → t < 2 ^ 62
    → Allows (Orderly base) n id m 2 (λ k. (k + 1) % 2 ^ 64) (passed (step n 2 1 0 none) m)
passes_as base n id m c t log b one here is early = rw (one, here, is) (passes base id c t log early)

pub held : (m : Sat) (v : View) (y : Option History) → m ≡ (v, (0, y) ∷ []) → m.1 ≡ (0, y) ∷ rest m.1
held m v y e = rw e

-- the slot that the seat took
pub slot_is : (m : Sat) (v : View) (y z : Option History) → m ≡ (v, (0, y) ∷ []) → m.1 ≡ (0, z) ∷ rest m.1 → z ≡ y
slot_is m v y z e is = ap (λ (l : List (ℕ × Option History)). (get_or l 0 (0, y)).1) (sym is ∙ ap (λ (x : Sat). x.1) e)

-- a call that the book in the slot has entered
pub asked : (m : Sat) (t number : ℕ) (call : Call) (slot : Option History) (answer : Answer) → HasBook m t (kept m.0.mine.base m.0.found)
    → Entered (kept m.0.mine.base m.0.found) number call slot answer → Asked m t number call (m.0, (0, slot) ∷ rest m.1) answer
asked m t number call slot answer has told =
    let v = m.0 in
    let b = v.mine.base.book in
    let log : List Entry = v.found ++ entry number call ∷ [] in
    let more : slot ≡ Some (kept v.mine.base log) = rw (told.0, append_assoc) in
    let small : length (b.entries ++ v.found) + 1 < 2 ^ 64 = told.2 in
    let out : (v, (0, slot) ∷ rest m.1) ≡ (serving v.mine t v.found, (0, Some (kept v.mine.base log)) ∷ []) =
    ap (λ (x : Sat × Option History). (v, (0, x.1) ∷ rest x.0.1)) (λ i. (has.1 i, more i)) ∙ ap (λ (x : Sat). (x.0, (0, Some (kept v.mine.base log)) ∷ [])) has.1 in
    (refl, told.1, (has.0, out), omega (arith, length-append b.entries v.found))

pub numbers_as : (base : Base) (n id : ℕ) (m : Sat) (b : Base) (k new : ℕ) → m ≡ (fresh b, []) → k < b.seats → new ≡ k + 1
    → Allows (Orderly base) n id m 3 (λ y. either (eqb y k) new y) (numbered (step n 3 k new none) m)
numbers_as base n id m b k new e room next = rw (next, e) (numbers base n id b k room)

pub splits_as : (base : Base) (id : ℕ) (m : Sat) (b : Base) → m ≡ (fresh b, []) → Splits (Orderly base) id m.0 m.0 m.0
splits_as base id m b e = rw e (splits base id b)

pub joins_as : (base : Base) (id : ℕ) (m : Sat) (other : ℕ) (them : Sat) (c : Claim) (t : ℕ) (log : List Entry) (x : List (ℕ × Option History)) (d : Claim) → m ≡ (serving c t log, x)
    → them ≡ (idle d, []) → Joins (Orderly base) id m.0 other them.0 (showing m.0.mine m.0.ticket m.0.found them.0.mine) spent
joins_as base id m other them c t log x d e f = rw (e, f) (joins base id c t log other d)

pub compares_as : (base : Base) (n id : ℕ) (m : Sat) (c : Claim) (t : ℕ) (log : List Entry) (d : Claim) (x : List (ℕ × Option History)) → m ≡ (showing c t log d, x)
    → Allows (Orderly base) n id m 0 (λ k. k) (compared (step n 0 0 0 none) m)
compares_as base n id m c t log d x e = rw e (compares base n id c t log d x 0)
