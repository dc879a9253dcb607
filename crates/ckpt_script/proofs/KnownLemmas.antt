-- What a reader has left, from step to step, if it is known.
use Rattle.ckpt_script.proofs.Names.{◌≡◌, ◌≢◌, ℕ, List, [], ◌∷◌, ◌++◌, Bool, true, false, ◌==◌, take, Option, None, Some, inl, inr, refl, sym, ap, subst, ◌∙◌, append_assoc, append-nil, IfSome}
use Rattle.ckpt_script.proofs.Names.{or_from, list_any-append, Keeps, IsAtEnd, prepend_known, WhereKnown, held, newline, has_newline, Moves, HoldsLine, HoldsPart}
use Rattle.ckpt_script.proofs.LineLemmas.{take_again}

pub WhereKnown-keeps : (a b c : Option (List ℕ)) (P : List ℕ → List ℕ → Type 0) → WhereKnown a b P → Keeps b c → WhereKnown a c P
WhereKnown-keeps None b c P p k = tt
WhereKnown-keeps (Some x) (Some y) (Some z) P p k = subst (λ (w : List ℕ). P x w) (sym k) p
WhereKnown-keeps (Some x) (Some y) None P p k = k
WhereKnown-keeps (Some x) None c P p k = absurd p

pub WhereKnown-map : (a b : Option (List ℕ)) (P Q : List ℕ → List ℕ → Type 0) → ((x y : List ℕ) → P x y → Q x y) → WhereKnown a b P → WhereKnown a b Q
WhereKnown-map None b P Q f p = tt
WhereKnown-map (Some x) (Some y) P Q f p = f x y p
WhereKnown-map (Some x) None P Q f p = p

-- what was read ahead changes, and the reader does not
WhereKnown-moves : (a rest : Option (List ℕ)) (xs ys : List ℕ) (P Q : List ℕ → List ℕ → Type 0)
    → ((x z : List ℕ) → P x (xs ++ z) → Q x (ys ++ z)) → WhereKnown a (prepend_known xs rest) P → WhereKnown a (prepend_known ys rest) Q
WhereKnown-moves None rest xs ys P Q f p = tt
WhereKnown-moves (Some x) (Some z) xs ys P Q f p = f x z p
WhereKnown-moves (Some x) None xs ys P Q f p = absurd p

no_newline-append : (xs ys : List ℕ) → has_newline xs ≡ false → has_newline ys ≡ false → has_newline (xs ++ ys) ≡ false
no_newline-append xs ys p q = list_any-append (λ b. b == newline) xs ys ∙ or_from (has_newline xs) (has_newline ys) p q

-- what is held of a part and a further part
more_held : (line after part more : List ℕ) → line ≡ take held part → after ≡ take held (line ++ more) → after ≡ take held (part ++ more)
more_held line after part more e f = f ∙ ap (λ xs. take held (xs ++ more)) e ∙ take_again held part more

regroup : (a b c d : List ℕ) → a ++ ((b ++ c) ++ d) ≡ (a ++ b) ++ (c ++ d)
regroup a b c d = simp append_assoc

module _ {before rest line after : List ℕ} where
  -- the part goes on
  part_goes_on : (all z : List ℕ) → Moves before rest line after false → HoldsPart all (before ++ z) line → HoldsPart all (rest ++ z) after
  part_goes_on all z moves had = (
    had.0 ++ moves.part,
    record {
      one_line = no_newline-append had.0 moves.part had.1.one_line moves.one_line;
      split = had.1.split ∙ ap (λ xs. had.0 ++ (xs ++ z)) moves.bytes_before ∙ regroup had.0 moves.part rest z;
    },
    more_held line after had.0 moves.part had.2 moves.line_after,
  )

  -- the newline came
  line_ends : (all z : List ℕ) (is_ended : Bool) → Moves before rest line after true → HoldsPart all (before ++ z) line → HoldsLine is_ended all (rest ++ z) after
  line_ends all z is_ended moves had = (
    had.0 ++ moves.part,
    record {
      one_line = no_newline-append had.0 moves.part had.1.one_line moves.one_line;
      split = inl (had.1.split ∙ ap (λ xs. had.0 ++ (xs ++ z)) moves.bytes_before ∙ regroup had.0 moves.part (newline ∷ rest) z);
    },
    more_held line after had.0 moves.part had.2 moves.line_after,
  )

  -- the same where it is known
  pub parts_go_on : (a known : Option (List ℕ)) → Moves before rest line after false → WhereKnown a (prepend_known before known) (λ all left. HoldsPart all left line)
      → WhereKnown a (prepend_known rest known) (λ all left. HoldsPart all left after)
  parts_go_on a known moves part = WhereKnown-moves a known before rest _ _ (λ all z. part_goes_on all z moves) part

  pub lines_end : (a known : Option (List ℕ)) (is_ended : Bool) → Moves before rest line after true → WhereKnown a (prepend_known before known) (λ all left. HoldsPart all left line)
      → WhereKnown a (prepend_known rest known) (λ all left. HoldsLine is_ended all left after)
  lines_end a known is_ended moves part = WhereKnown-moves a known before rest _ _ (λ all z. line_ends all z is_ended moves) part

-- the end of the text came
pub text_ends : (is_ended : Bool) (a rest : Option (List ℕ)) (xs line : List ℕ) → xs ≡ [] → is_ended ≡ true → IsAtEnd rest
    → WhereKnown a (prepend_known xs rest) (λ all left. HoldsPart all left line) → WhereKnown a (prepend_known xs rest) (λ all left. HoldsLine is_ended all left line)
text_ends is_ended None rest xs line e ended end p = tt
text_ends is_ended (Some all) (Some z) xs line e ended end p =
    let none : xs ++ z ≡ [] = ap (λ ys. ys ++ z) e ∙ end in
    (p.0, record { one_line = p.1.one_line; split = inr (p.1.split ∙ ap (λ ys. p.0 ++ ys) none ∙ append-nil p.0, none, ended) }, p.2)
text_ends is_ended (Some all) None xs line e ended end p = absurd p

-- nothing that was read ahead is left
pub WhereKnown-unread : (a rest : Option (List ℕ)) (xs : List ℕ) (P : List ℕ → List ℕ → Type 0) → xs ≡ [] → WhereKnown a (prepend_known xs rest) P → WhereKnown a rest P
WhereKnown-unread None rest xs P e p = tt
WhereKnown-unread (Some x) (Some z) xs P e p = subst (λ (ys : List ℕ). P x (ys ++ z)) e p
WhereKnown-unread (Some x) None xs P e p = p

-- one step after the other
pub WhereKnown-compose : (a b c : Option (List ℕ)) (P Q R : List ℕ → List ℕ → Type 0) → WhereKnown a b P → WhereKnown b c Q
    → ((x y z : List ℕ) → P x y → Q y z → R x z) → WhereKnown a c R
WhereKnown-compose None b c P Q R p q f = tt
WhereKnown-compose (Some x) (Some y) (Some z) P Q R p q f = f x y z p q
WhereKnown-compose (Some x) (Some y) None P Q R p q f = q
WhereKnown-compose (Some x) None c P Q R p q f = absurd p

pub WhereKnown-if : (a b : Option (List ℕ)) (P : List ℕ → List ℕ → Type 0) (Q : List ℕ → Type 0) → ((x y : List ℕ) → P x y → Q x) → WhereKnown a b P → IfSome a Q
WhereKnown-if None b P Q f p = tt
WhereKnown-if (Some x) (Some y) P Q f p = f x y p
WhereKnown-if (Some x) None P Q f p = absurd p

-- what was read ahead is left
pub WhereKnown-some : (a rest : Option (List ℕ)) (xs : List ℕ) (P : List ℕ → List ℕ → Type 0) → xs ≢ [] → WhereKnown a (prepend_known xs rest) P
    → WhereKnown a (prepend_known xs rest) (λ x y. P x y × (y ≢ []))
WhereKnown-some None rest xs P some p = tt
WhereKnown-some (Some x) (Some z) [] P some p = absurd (some refl)
WhereKnown-some (Some x) (Some z) (b ∷ xs) P some p = (p, λ none. cc)
WhereKnown-some (Some x) None xs P some p = p
