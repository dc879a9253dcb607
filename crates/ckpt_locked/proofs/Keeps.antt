-- Each step keeps the rule.
use Rattle.ckpt_locked.proofs.Names.{Allows, Base, Busy, Called, Claim, Claimed, Entry, Fits, History, Joins, List, Option, Orderly, Sat, SeatsBelow, Some, Splits, StartsWith, Valid, View, [], ap}
use Rattle.ckpt_locked.proofs.Names.{append-nil, arith, at_longer, at_set, at_snoc, calls_by, carried_after, claim, dite, either, eqb, exchanged, false, fresh, get_elem?, get_or, gives, grown}
use Rattle.ckpt_locked.proofs.Names.{has_number, idle, in_line, inl, inr, keeps, kept, length, length-append, none, opening, refl, serving, set, set_again, set_else, set_here, showing, some}
use Rattle.ckpt_locked.proofs.Names.{some-injective, some-ne-none, spent, stepped, subst, suc, sym, takes, true, true≢false, waiting, zero, ℕ, ℕ_discrete, ⊎_elim, ◌%◌, ◌++◌, ◌+◌, ◌<◌, ◌^◌, ◌∙◌, ◌∷◌}
use Rattle.ckpt_locked.proofs.Names.{◌≡◌, ◌≢◌, ◌≤◌, ◌⊎◌}
use Rattle.ckpt_locked.proofs.SeatLists.{all_set, below-le, below-push, calls_by-none, calls_by-other, in_line-le, put, put_else, put_here, put_to, set_at, starts_all, starts_more, starts_none}
use Rattle.ckpt_locked.proofs.SeatLists.{total-append, total-set}
use Rattle.atomic_table.specs.Table.{State}
use lib.Seq.{set-get_or}
use Rattle.ckpt_locked.specs.declared.limits.TheConstants.{MOST_SEATS, TICKETS_END}
use Rattle.ckpt_locked.specs.Turns.{total}
use mathlib.Core.Option as maybe

abbrev St : Type 0
St = State (Option History) View

-- the book is in its slot, or a seat has it
abbrev Slotted : Base → List Entry → List (maybe.Option (Option History)) → List View → Type 0
Slotted base log homes views = (get_elem? homes 0 ≡ some (some (Some (kept base log)))) ⊎ Busy views

no : {A : Type 0} → false ≡ true → A
no e = absurd (true≢false (sym e))

fits : {base : Base} {log : List Entry} {tickets served given : ℕ} {owner holder : ℕ → ℕ} {place : ℕ} {v : View} → (v.live ≡ true → v.mine.base ≡ base)
    → (v.numbered ≡ true → (owner v.mine.number ≡ place) × (v.mine.number < given) × Claimed base log v.mine)
    → (v.queued ≡ true → (v.numbered ≡ true) × (holder v.ticket ≡ place) × (served ≤ v.ticket) × (v.ticket < tickets)) → (v.turn ≡ true → (v.queued ≡ true) × (v.ticket ≡ served) × (v.found ≡ log))
    → (v.claims ≡ true → (v.turn ≡ true) × (owner v.other.number ≡ place) × (v.other.number < given) × Claimed base log v.other) → Fits base log tickets served given owner holder place v
fits lives number queue turn other = record { lives = lives; number = number; queue = queue; turn = turn; other = other }

orderly : (base : Base) (s : St) (log : List Entry) (tickets served given : ℕ) (perches : List ℕ) (owner holder : ℕ → ℕ) → s.words ≡ length log ∷ tickets ∷ served ∷ given ∷ perches
    → (given ≤ base.seats) × (base.seats ≤ MOST_SEATS) → served ≤ TICKETS_END → total in_line s.views + served ≡ tickets → total has_number s.views ≤ given → SeatsBelow given log
    → ((j : ℕ) (v : View) → get_elem? s.views j ≡ some v → Fits base log tickets served given owner holder j v) → Slotted base log s.homes s.views → Orderly base s
orderly base s l t d g p o h w f e i n b v k =
    record { log = l; tickets = t; served = d; given = g; perches = p; owner = o; holder = h; words = w; few = f; early = e; line_length = i; numbers = n; seats = b; views = v; slot = k }

module _ {base : Base} {s : St} (o : Orderly base s) where
  -- who has the turn is the holder of the ticket that is served
  turn_is : (j : ℕ) (u : View) → get_elem? s.views j ≡ some u → u.turn ≡ true → j ≡ o.holder o.served
  turn_is j u at y = let f = o.views j u at in let g = f.turn y in sym (f.queue g.0).1 ∙ ap o.holder g.1

  module _ (id : ℕ) (v : View) (me : get_elem? s.views id ≡ some v) (w : View) where
    -- the book stays where it is
    stays : (v.turn ≡ true → w.turn ≡ true) → Slotted base o.log s.homes (set s.views id w)
    stays keep =
        ⊎_elim (λ x. inl x)
        (λ (b : Busy s.views). inr (dite (ℕ_discrete b.0 id)
        (λ e. (id, w, set_at s.views id v w me, keep (ap (λ (x : View). x.turn) (sym (some-injective b.1 v (sym b.2 ∙ (ap (get_elem? s.views) e ∙ me)))) ∙ b.3)))
        (λ ne. (b.0, b.1, set_else s.views id b.0 w ne ∙ b.2, b.3))))
        o.slot

    -- a step that changes one view, and words with it
    moved : (ws : List ℕ) (hs : List (maybe.Option (Option History))) (log : List Entry) (tickets served given : ℕ) (owner holder : ℕ → ℕ) → ws ≡ length log ∷ tickets ∷ served ∷ given ∷ o.perches
        → given ≤ base.seats → served ≤ TICKETS_END → in_line w + served + o.tickets ≡ in_line v + o.served + tickets → has_number w + o.given ≤ has_number v + given → SeatsBelow given log
        → ((j : ℕ) (u : View) → j ≢ id → get_elem? s.views j ≡ some u → Fits base log tickets served given owner holder j u) → Fits base log tickets served given owner holder id w
        → Slotted base log hs (set s.views id w) → Orderly base (record { words = ws; homes = hs; views = set s.views id w })
    moved ws hs log tickets served given owner holder words few early line number seats others mine slot =
        let l = total-set in_line s.views id v w me in
        let h = total-set has_number s.views id v w me in
        let l₀ = o.line_length in let h₀ = o.numbers in
        orderly base _ log tickets served given o.perches owner holder words (few, o.few.1) early (omega arith) (omega arith) seats
        (all_set (Fits base log tickets served given owner holder) s.views id w others mine) slot

    -- a step that changes no word
    reseen : (ws : List ℕ) (hs : List (maybe.Option (Option History))) → ws ≡ s.words → in_line w ≡ in_line v → has_number w ≡ has_number v
        → Fits base o.log o.tickets o.served o.given o.owner o.holder id w → Slotted base o.log hs (set s.views id w) → Orderly base (record { words = ws; homes = hs; views = set s.views id w })
    reseen ws hs same line number mine slot =
        moved ws hs o.log o.tickets o.served o.given o.owner o.holder (same ∙ o.words) o.few.0 o.early (omega arith) (omega arith) o.seats (λ j u apart e. o.views j u e) mine slot

pub draws : (base : Base) (n id : ℕ) (c : Claim) → Allows (Orderly base) n id (idle c, []) 1 (λ k. (k + 1) % 2 ^ 64) (λ r m. m ≡ (waiting c r, []))
draws base n id c s o wide me _ =
    let r : ℕ = get_or s.words 1 0 in
    let is : r ≡ o.tickets = ap (λ (ws : List ℕ). get_or ws 1 0) o.words in
    let mine = o.views id (idle c) me in
    let l₀ = o.line_length in let h₀ = o.numbers in let few = o.few in let early = o.early in let le = in_line-le s.views in
    let small : o.tickets ≤ 4611686018427387968 = omega arith in
    let next : (r + 1) % 2 ^ 64 ≡ o.tickets + 1 = omega arith in (
      waiting c r,
      keeps,
      tt,
      moved o id (idle c) me (waiting c r) _ s.homes o.log (o.tickets + 1) o.served o.given o.owner (put o.holder r id)
          (ap (λ (ws : List ℕ). set ws 1 ((r + 1) % 2 ^ 64)) o.words ∙ ap (λ (k : ℕ). length o.log ∷ k ∷ o.served ∷ o.given ∷ o.perches) next) few.0 early (omega arith) (omega arith) o.seats
          (λ j u apart e. let f = o.views j u e in
          fits f.lives f.number (λ q. let g = f.queue q in let below = g.3 in (g.0, put_else o.holder r id u.ticket (λ same. omega arith) ∙ g.1, g.2, omega arith)) f.turn f.other)
          (fits mine.lives mine.number (λ _. (refl, put_here o.holder r id r refl, omega arith, omega arith)) no no) (stays o id (idle c) me (waiting c r) no),
      refl,
    )

pub awaits : (base : Base) (id : ℕ) (c : Claim) (t : ℕ) → Allows (Orderly base) 1 id (waiting c t, []) 2 (λ k. k) (λ r m. (r ≡ t → Called c t m) × (r ≢ t → m ≡ (waiting c t, [])))
awaits base id c t s o wide me _ =
    let r : ℕ = get_or s.words 2 0 in
    let is : r ≡ o.served = ap (λ (ws : List ℕ). get_or ws 2 0) o.words in
    let same : set s.words 2 r ≡ s.words = set-get_or s.words 2 0 in
    let v : View = waiting c t in
    let mine = o.views id v me in
    let line = mine.queue refl in
    let number = mine.number refl in
    let base_is : c.base ≡ base = number.2.base_is in
    dite (ℕ_discrete r t)
    (λ hit.
    let w : View = serving c t o.log in
    let home : get_elem? s.homes 0 ≡ some (some (Some (kept base o.log))) =
    ⊎_elim (λ x. x)
    (λ (b : Busy s.views).
    let here : b.0 ≡ id = turn_is o b.0 b.1 b.2 b.3 ∙ (ap o.holder (sym is ∙ hit) ∙ line.1) in
    no (ap (λ (x : View). x.turn) (sym (some-injective b.1 v (sym b.2 ∙ (ap (get_elem? s.views) here ∙ me)))) ∙ b.3))
    o.slot
    in
    let few = o.few in (
      w,
      takes 0 (Some (kept c.base o.log)),
      home ∙ ap (λ (b : Base). some (some (Some (kept b o.log)))) (sym base_is),
      reseen o id v me w (set s.words 2 r) (set s.homes 0 none) same refl refl (fits mine.lives mine.number mine.queue (λ _. (refl, sym hit ∙ is, refl)) no)
          (inr (id, w, set_at s.views id v w me, refl)),
      ((λ _. (o.log, refl, number.2.seen, number.2.own, below-le o.given c.base.seats o.log (subst (λ (b : Base). o.given ≤ b.seats) (sym base_is) few.0) o.seats)), λ miss. absurd (miss hit)),
    ))
    (λ miss. (v, keeps, tt, reseen o id v me v (set s.words 2 r) s.homes same refl refl mine (stays o id v me v (λ e. e)), ((λ hit. absurd (miss hit)), λ _. refl)))

-- e is the seat's own entry
pub commits : (base : Base) (n id : ℕ) (c : Claim) (t : ℕ) (was : List Entry) (e : Entry) (x : List (ℕ × Option History)) → e.seat ≡ c.number → length was + 1 < 2 ^ 64
    → Allows (Orderly base) n id (serving c t was, x) 0 (λ k. (k + 1) % 2 ^ 64) (λ r m. m ≡ (serving (grown c (was ++ e ∷ [])) t (was ++ e ∷ []), x))
commits base n id c t was e x by_me room s o wide me _ =
    let v : View = serving c t was in
    let r : ℕ = get_or s.words 0 0 in
    let is : r ≡ length o.log = ap (λ (ws : List ℕ). get_or ws 0 0) o.words in
    let mine = o.views id v me in
    let number = mine.number refl in
    let line = mine.queue refl in
    let turn = mine.turn refl in
    let long : length was ≡ length o.log = ap (λ (l : List Entry). length l) turn.2 in
    let log : List Entry = was ++ e ∷ [] in
    let longer = length-append was (e ∷ []) in
    let next : (r + 1) % 2 ^ 64 ≡ length log = omega arith in
    let w : View = serving (grown c log) t log in
    let ours : o.log ++ e ∷ [] ≡ log = ap (λ (l : List Entry). l ++ e ∷ []) (sym turn.2) in
    let more : (u : Claim) → e.seat ≢ u.number → Claimed base o.log u → Claimed base log u = λ u ne k.
    subst (λ (l : List Entry). Claimed base l u) ours (record { base_is = k.base_is; seen = starts_more o.log u.later e k.seen; own = calls_by-other u.number o.log e ne ∙ k.own }) in
    let alone : (j : ℕ) (u : View) → j ≢ id → get_elem? s.views j ≡ some u → u.turn ≡ true → ⊥ = λ j u apart at y. apart (turn_is o j u at y ∙ (ap o.holder (sym turn.1) ∙ line.1)) in
    let below = number.1 in (
      w,
      keeps,
      tt,
      moved o id v me w _ s.homes log o.tickets o.served o.given o.owner o.holder
          (ap (λ (ws : List ℕ). set ws 0 ((r + 1) % 2 ^ 64)) o.words ∙ ap (λ (k : ℕ). k ∷ o.tickets ∷ o.served ∷ o.given ∷ o.perches) next) o.few.0 o.early (omega arith) (omega arith)
          (subst (SeatsBelow o.given) ours (below-push o.given o.log e o.seats (omega arith)))
          (λ j u apart at. let f = o.views j u at in
          fits f.lives (λ y. let g = f.number y in (g.0, g.1, more u.mine (λ same. apart (sym g.0 ∙ (ap o.owner (sym same ∙ by_me) ∙ number.0))) g.2)) f.queue
          (λ y. absurd (alone j u apart at y)) (λ y. absurd (alone j u apart at (f.other y).0)))
          (fits mine.lives (λ _. (number.0, number.1, record { base_is = number.2.base_is; seen = starts_all log; own = refl })) mine.queue (λ _. (refl, turn.1, refl)) no)
          (inr (id, w, set_at s.views id v w me, refl)),
      refl,
    )

pub passes : (base : Base) (id : ℕ) (c : Claim) (t : ℕ) (log : List Entry) → t < 2 ^ 62
    → Allows (Orderly base) 1 id (serving c t log, (0, Some (kept c.base log)) ∷ []) 2 (λ k. (k + 1) % 2 ^ 64) (λ r m. m ≡ (idle c, []))
passes base id c t log early s o wide me _ =
    let v : View = serving c t log in
    let r : ℕ = get_or s.words 2 0 in
    let is : r ≡ o.served = ap (λ (ws : List ℕ). get_or ws 2 0) o.words in
    let mine = o.views id v me in
    let line = mine.queue refl in
    let turn = mine.turn refl in
    let now : t ≡ o.served = turn.1 in
    let next : (r + 1) % 2 ^ 64 ≡ o.served + 1 = omega arith in
    let alone : (j : ℕ) (u : View) → j ≢ id → get_elem? s.views j ≡ some u → u.turn ≡ true → ⊥ = λ j u apart at y. apart (turn_is o j u at y ∙ (ap o.holder (sym now) ∙ line.1)) in (
      idle c,
      gives,
      tt,
      moved o id v me (idle c) _ _ o.log o.tickets (o.served + 1) o.given o.owner o.holder
          (ap (λ (ws : List ℕ). set ws 2 ((r + 1) % 2 ^ 64)) o.words ∙ ap (λ (k : ℕ). length o.log ∷ o.tickets ∷ k ∷ o.given ∷ o.perches) next) o.few.0 (omega arith) (omega arith) (omega arith)
          o.seats
          (λ j u apart at. let f = o.views j u at in
          fits f.lives f.number
          (λ y. let q = f.queue y in let from = q.2 in let other : u.ticket ≢ o.served = λ same. apart (sym q.1 ∙ (ap o.holder (same ∙ sym now) ∙ line.1)) in (q.0, q.1, omega arith, q.3))
          (λ y. absurd (alone j u apart at y)) (λ y. absurd (alone j u apart at (f.other y).0)))
          (fits mine.lives mine.number no no no)
          (inl (set_here s.homes 0 (some (Some (kept c.base log))) (omega arith) ∙ ap (λ (h : History). some (some (Some h))) (λ i. kept ((mine.number refl).2.base_is i) (turn.2 i)))),
      refl,
    )

-- a step on a perch changes no view
pub stirs : (base : Base) (n id : ℕ) (m : Sat) (i : ℕ) (f : ℕ → ℕ) → 4 ≤ i → Allows (Orderly base) n id m i f (λ r k. k ≡ m)
stirs base n id m zero f perch s o wide me _ = absurd (omega arith)
stirs base n id m (suc zero) f perch s o wide me _ = absurd (omega arith)
stirs base n id m (suc (suc zero)) f perch s o wide me _ = absurd (omega arith)
stirs base n id m (suc (suc (suc zero))) f perch s o wide me _ = absurd (omega arith)
stirs base n id m (suc (suc (suc (suc k)))) f perch s o wide me _ =
    let i : ℕ = suc (suc (suc (suc k))) in
    let y : ℕ = f (get_or s.words i 0) in (
      m.0,
      keeps,
      tt,
      subst (λ (vs : List View). Orderly base (record { words = set s.words i y; homes = s.homes; views = vs })) (sym (set_again s.views id m.0 me))
          (orderly base _ o.log o.tickets o.served o.given (set o.perches k y) o.owner o.holder (ap (λ (ws : List ℕ). set ws i y) o.words) o.few o.early o.line_length o.numbers
          o.seats o.views o.slot),
      refl,
    )

pub splits : (base : Base) (id : ℕ) (b : Base) → Splits (Orderly base) id (fresh b) (fresh b) (fresh b)
splits base id b s o me =
    let v : View = fresh b in
    let l = total-append in_line s.views (v ∷ []) in
    let h = total-append has_number s.views (v ∷ []) in
    let l₀ = o.line_length in let h₀ = o.numbers in
    let mine = o.views id v me in
    subst (λ (vs : List View). Orderly base (record { words = s.words; homes = s.homes; views = vs ++ v ∷ [] })) (sym (set_again s.views id v me))
    (orderly base _ o.log o.tickets o.served o.given o.perches o.owner o.holder o.words o.few o.early (omega arith) (omega arith) o.seats
    (λ j u at. ⊎_elim (λ x. o.views j u x) (λ (x : v ≡ u). subst (Fits base o.log o.tickets o.served o.given o.owner o.holder j) x (fits mine.lives no no no no)) (at_snoc s.views v u j at))
    (⊎_elim (λ x. inl x) (λ (x : Busy s.views). inr (x.0, x.1, at_longer s.views (v ∷ []) x.0 x.1 x.2, x.3)) o.slot))

pub numbers : (base : Base) (n id : ℕ) (b : Base) (k : ℕ) → k < b.seats
    → Allows (Orderly base) n id (fresh b, []) 3 (λ y. either (eqb y k) (k + 1) y) (λ r m. (r ≡ k → m ≡ (idle (claim b r [] []), [])) × (r ≢ k → m ≡ (fresh b, [])))
numbers base n id b k room s o wide me _ =
    let r : ℕ = get_or s.words 3 0 in
    let is : r ≡ o.given = ap (λ (ws : List ℕ). get_or ws 3 0) o.words in
    let v : View = fresh b in
    let mine = o.views id v me in
    let base_is : b ≡ base = mine.lives refl in
    let then : ℕ → Sat → Type 0 = λ r m. (r ≡ k → m ≡ (idle (claim b r [] []), [])) × (r ≢ k → m ≡ (fresh b, [])) in
    exchanged r k (k + 1) (λ y. (w : View) × (a : Rattle.atomic_table.specs.Table.Act (Option History)) × Valid s.homes [] a × Orderly base (stepped s 3 y id [] w a) × then r (w, carried_after [] a))
    (λ hit.
    let w : View = idle (claim b r [] []) in
    let next : k + 1 ≡ o.given + 1 = omega arith in
    let few₀ : o.given + 1 ≤ base.seats = subst (λ (x : Base). o.given + 1 ≤ x.seats) base_is (omega arith) in (
      w,
      keeps,
      tt,
      moved o id v me w _ s.homes o.log o.tickets o.served (o.given + 1) (put o.owner r id) o.holder
          (ap (λ (ws : List ℕ). set ws 3 (k + 1)) o.words ∙ ap (λ (x : ℕ). length o.log ∷ o.tickets ∷ o.served ∷ x ∷ o.perches) next) few₀ o.early (omega arith) (omega arith)
          (below-le o.given (o.given + 1) o.log (omega arith) o.seats)
          (λ j u apart at. let f = o.views j u at in
          fits f.lives (λ y. let g = f.number y in let below = g.1 in (put_else o.owner r id u.mine.number (λ e. omega arith) ∙ g.0, omega arith, g.2)) f.queue f.turn
          (λ y. let g = f.other y in let below = g.2 in (g.0, put_else o.owner r id u.other.number (λ e. omega arith) ∙ g.1, omega arith, g.3)))
          (fits (λ _. base_is)
          (λ _. (put_here o.owner r id r refl, omega arith, record { base_is = base_is; seen = starts_none o.log; own = calls_by-none r o.log (below-le o.given r o.log (omega arith) o.seats) })) no no
          no)
          (stays o id v me w no),
      ((λ _. refl), λ miss. absurd (miss hit)),
    ))
    (λ miss. (v, keeps, tt, reseen o id v me v (set s.words 3 r) s.homes (set-get_or s.words 3 0) refl refl mine (stays o id v me v (λ e. e)), ((λ hit. absurd (miss hit)), λ _. refl)))

pub joins : (base : Base) (id : ℕ) (c : Claim) (t : ℕ) (log : List Entry) (other : ℕ) (d : Claim) → Joins (Orderly base) id (serving c t log) other (idle d) (showing c t log d) spent
joins base id c t log other d s o me apart them =
    let v : View = serving c t log in
    let w : View = showing c t log d in
    let vs : List View = set s.views id w in
    let was : get_elem? s.views other ≡ some (idle d) = sym (set_else s.views id other w apart) ∙ them in
    let mine = o.views id v me in
    let number = mine.number refl in
    let theirs = (o.views other (idle d) was).number refl in
    let l = total-set in_line s.views id v w me in
    let h = total-set has_number s.views id v w me in
    let l₁ = total-set in_line vs other (idle d) spent them in
    let h₁ = total-set has_number vs other (idle d) spent them in
    let l₀ = o.line_length in let h₀ = o.numbers in
    let owner : ℕ → ℕ = put o.owner d.number id in
    let P : ℕ → View → Type 0 = Fits base o.log o.tickets o.served o.given owner o.holder in
    orderly base _ o.log o.tickets o.served o.given o.perches owner o.holder o.words o.few o.early (omega arith) (omega arith) o.seats
    (all_set P vs other spent
    (λ j u far at.
    ⊎_elim
    (λ (x : (j ≡ id) × (w ≡ u)). subst (λ (y : ℕ × View). P y.0 y.1) (λ i. (sym x.0 i, x.1 i))
    (fits mine.lives (λ _. (put_to o.owner d.number id c.number number.0, number.1, number.2)) mine.queue mine.turn (λ _. (refl, put_here o.owner d.number id d.number refl, theirs.1, theirs.2))))
    (λ (x : (j ≢ id) × (get_elem? s.views j ≡ some u)).
    let f = o.views j u x.1 in
    let gone : (k : ℕ) → o.owner k ≡ j → owner k ≡ j = λ k g. put_else o.owner d.number id k (λ same. far (sym g ∙ (ap o.owner same ∙ theirs.0))) ∙ g in
    fits f.lives (λ y. let g = f.number y in (gone u.mine.number g.0, g.1, g.2)) f.queue f.turn (λ y. let g = f.other y in (g.0, gone u.other.number g.1, g.2, g.3)))
    (at_set s.views id j w u at))
    (fits no no no no no))
    (inr (id, w, set_else vs other id spent (λ e. apart (sym e)) ∙ set_at s.views id v w me, refl))

pub compares : (base : Base) (n id : ℕ) (c : Claim) (t : ℕ) (log : List Entry) (d : Claim) (x : List (ℕ × Option History)) (i : ℕ)
    → Allows (Orderly base) n id (showing c t log d, x) i (λ k. k) (λ r m. (m ≡ (serving c t log, x)) × (d.base ≡ c.base) × StartsWith log d.later × (calls_by d.number log ≡ d.own))
compares base n id c t log d x i s o wide me _ =
    let v : View = showing c t log d in
    let mine = o.views id v me in
    let turn = mine.turn refl in
    let theirs = (mine.other refl).3 in (
      serving c t log,
      keeps,
      tt,
      reseen o id v me (serving c t log) (set s.words i (get_or s.words i 0)) s.homes (set-get_or s.words i 0) refl refl (fits mine.lives mine.number mine.queue mine.turn no)
          (stays o id v me (serving c t log) (λ e. e)),
      (refl, theirs.base_is ∙ sym (mine.number refl).2.base_is, subst (λ (l : List Entry). StartsWith l d.later) (sym turn.2) theirs.seen, ap (calls_by d.number) turn.2 ∙ theirs.own),
    )

pub starts : (base : Base) (ps : List ℕ) → base.seats ≤ 64 → Orderly base (opening (0 ∷ 0 ∷ 0 ∷ 0 ∷ ps) (Some base.book ∷ []) (fresh base))
starts base ps most =
    orderly base _ [] 0 0 0 ps (λ k. k) (λ k. k) refl (omega arith, most) (omega arith) refl (omega arith) tt (λ j u at. one j u at)
    (inl (ap (λ (l : List Entry). some (some (Some (record base.book { entries = l })))) (sym (append-nil base.book.entries))))
  where
    one : (j : ℕ) (u : View) → get_elem? (fresh base ∷ []) j ≡ some u → Fits base [] 0 0 0 (λ k. k) (λ k. k) j u
    one zero u at = subst (Fits base [] 0 0 0 (λ k. k) (λ k. k) 0) (some-injective (fresh base) u at) (fits (λ _. refl) no no no no)
    one (suc j) u at = absurd (some-ne-none u (sym at))

pub starts_as : (v book : History) (seats : ℕ) (xs : List (Option History)) (ps : List ℕ) → v ≡ book → xs ≡ Some book ∷ [] → seats ≤ 64
    → let base : Base = record { book = v; seats = seats } in Orderly base (opening (0 ∷ 0 ∷ 0 ∷ 0 ∷ ps) xs (fresh base))
starts_as v book seats xs ps same is most = rw (is, ← same) (starts (record { book = v; seats = seats }) ps most)
