-- Lists that are dealt out, one member at a time, and read in turn.
use Rattle.ckpt_workers.proofs.Names.{All, All-get_or, IsDeal, IsDealOf, List, [], ap, append-nil, arith, cond, dealt_to, dite, eq-eqb, get_or, get_or-map, get_or-set_other, get_or-set_same, length}
use Rattle.ckpt_workers.proofs.Names.{length-append, length-map, length-set, map, map-set, mod-lt, ne_eqb, refl, set, subst, sym, take, take_all, take_more, turns_of, ℕ, ℕ_discrete, ◌%◌, ◌++◌, ◌+◌}
use Rattle.ckpt_workers.proofs.Names.{◌/◌, ◌<◌, ◌∙◌, ◌∷◌, ◌≡◌, ◌≢◌}
use Rattle.ckpt_workers.proofs.Dealing.{dealt_to-push, in_turn, length-dealt_to, turns_of-here}

module _ {A : Type 0} where
  length-push : (xs : List A) (x : A) → length (xs ++ x ∷ []) ≡ length xs + 1
  length-push xs x = omega (arith, length-append xs (x ∷ []))

  in_turn_here : (n m k : ℕ) (x : A) → m % n ≡ k → in_turn n k m x ≡ x ∷ []
  in_turn_here n m k x e = ap (λ b. cond b (x ∷ []) []) (eq-eqb (m % n) k e)

  in_turn_not : (n m k : ℕ) (x : A) → m % n ≢ k → in_turn n k m x ≡ []
  in_turn_not n m k x ne = ap (λ b. cond b (x ∷ []) []) (ne_eqb (m % n) k ne)

  pub IsDeal-none : (hands : List (List A)) → All (λ l. l ≡ []) hands → IsDeal hands []
  IsDeal-none hands none = λ k below. All-get_or (λ l. l ≡ []) hands k [] below none

  -- the next member goes to the hand whose turn it is
  pub IsDeal-push : (hands : List (List A)) (xs : List A) (x : A) (seat : ℕ) → seat ≡ length xs % length hands → 0 < length hands → IsDeal hands xs
      → IsDeal (set hands seat (get_or hands seat [] ++ x ∷ [])) (xs ++ x ∷ [])
  IsDeal-push hands xs x seat at some deal = λ k below.
      let n = length hands in
      let same : length (set hands seat (get_or hands seat [] ++ x ∷ [])) ≡ n = length-set hands seat (get_or hands seat [] ++ x ∷ []) in
      let small : length xs % n < n = mod-lt (length xs) some in
      let mine : k < n = omega arith in
      rw same
      (dite (ℕ_discrete k seat)
      (λ e. rw (← e, get_or-set_same hands k (get_or hands k [] ++ x ∷ []) [] mine, deal k mine, dealt_to-push n k xs x, in_turn_here n (length xs) k x (sym at ∙ sym e)))
      (λ ne. rw (get_or-set_other hands seat k (get_or hands seat [] ++ x ∷ []) [] ne, deal k mine, dealt_to-push n k xs x, in_turn_not n (length xs) k x (λ e. ne (sym e ∙ sym at)), append-nil)))

  -- the same, if the hands are part of something else
  pub IsDeal-given : {S : Type 0} (held : S → List A) (shares : List S) (place n : ℕ) (xs : List A) (x : A) (old new : S) → 0 < length shares → n ≡ length shares → place ≡ length xs
      → old ≡ get_or shares (place % n) old → held new ≡ held old ++ x ∷ [] → IsDeal (map held shares) xs → IsDeal (map held (set shares (place % n) new)) (xs ++ x ∷ [])
  IsDeal-given held shares place n xs x old new some many at is more deal =
      let seat = place % n in
      let hands = map held shares in
      let long : length hands ≡ length shares = length-map shares held in
      let within : seat < length shares = subst (λ i. place % i < length shares) (sym many) (mod-lt place some) in
      let mine : held old ≡ get_or hands seat [] = ap held is ∙ sym (get_or-map held shares seat old [] within) in
      let turn : seat ≡ length xs % length hands = ap (λ i. i % n) at ∙ ap (λ i. length xs % i) (many ∙ sym long) in
      subst (λ l. IsDeal l (xs ++ x ∷ [])) (sym (map-set held shares seat new ∙ ap (set hands seat) (more ∙ ap (λ l. l ++ x ∷ []) mine)))
      (IsDeal-push hands xs x seat turn (omega arith) deal)

  -- each hand begins with what was read so far
  abbrev pub IsRead : List (List A) → List A → Type 0
  IsRead hands xs = (k : ℕ) → k < length hands → dealt_to (length hands) k xs ≡ take (length (dealt_to (length hands) k xs)) (get_or hands k [])

  pub IsRead-none : (hands : List (List A)) → IsRead hands []
  IsRead-none hands = λ k below. refl

  -- the next is read from the hand whose turn it is
  pub IsRead-push : (hands : List (List A)) (xs : List A) (x d : A) → 0 < length hands
      → length xs / length hands < length (get_or hands (length xs % length hands) [])
      → x ≡ get_or (get_or hands (length xs % length hands) []) (length xs / length hands) d
      → IsRead hands xs → IsRead hands (xs ++ x ∷ [])
  IsRead-push hands xs x d some within is read = λ k below.
      let n = length hands in
      dite (ℕ_discrete (length xs % n) k)
      (λ e.
      let at = length xs / n in
      let hand = get_or hands (length xs % n) [] in
      let here : get_or hands k [] ≡ hand = ap (λ i. get_or hands i []) (sym e) in
      let turns : length (dealt_to n k xs) ≡ at = length-dealt_to n k xs below ∙ ap (λ i. turns_of n i (length xs)) (sym e) ∙ turns_of-here n (length xs) some in
      let all : dealt_to n k (xs ++ x ∷ []) ≡ dealt_to n k xs ++ x ∷ [] = dealt_to-push n k xs x ∙ rw (in_turn_here n (length xs) k x e) in
      let long : length (dealt_to n k xs ++ x ∷ []) ≡ at + 1 = omega (arith, turns, length-push (dealt_to n k xs) x) in
      let old : dealt_to n k xs ≡ take at hand = read k below ∙ rw (turns, here) in
      rw (all, long, here, take_more hand at d within, old, ← is))
      (λ ne.
      let all : dealt_to n k (xs ++ x ∷ []) ≡ dealt_to n k xs = dealt_to-push n k xs x ∙ rw (in_turn_not n (length xs) k x ne, append-nil) in
      rw all (read k below))

  -- if all were read, they are what was dealt out
  pub IsRead-all : (hands : List (List A)) (xs : List A) (count : ℕ) → length xs ≡ count → IsDealOf hands count → IsRead hands xs → IsDeal hands xs
  IsRead-all hands xs count as_many of read = λ k below.
      let n = length hands in
      let turns : length (dealt_to n k xs) ≡ turns_of n k count = length-dealt_to n k xs below ∙ ap (turns_of n k) as_many in
      let long : length (get_or hands k []) ≡ turns_of n k count = of k below in
      sym (read k below ∙ take_all (length (dealt_to n k xs)) (get_or hands k []) (omega (arith, turns, long)))
