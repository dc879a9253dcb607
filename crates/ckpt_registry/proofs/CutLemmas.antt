-- How a record's list of files stands for its parts.
use Rattle.ckpt_registry.proofs.Names.{◌≡◌, ℕ, zero, suc, ◌+◌, ◌-◌, ◌<◌, ◌≤◌, List, [], ◌∷◌, ◌++◌, length, get_or, take, drop, refl, sym, ap, subst, ◌∙◌, arith, length-append, between, drop-drop}
use Rattle.ckpt_registry.proofs.Names.{drop_at, get_or-take, get_or_default, length-take, take-append-le, take_all, take_at, take_more, take-take, between_from_start, between_is, take-add}
use Rattle.ckpt_registry.proofs.Names.{IsAscending, times, times-append, Cut, AreCut, IsCutAt, Part, files_in, files_of, parts_from, common_steps}
use Rattle.ckpt_registry.proofs.PartLemmas.{times_of_take}

-- where the last of these parts ends, if the first begins here
abbrev pub end_of : ℕ → List Cut → ℕ
end_of start [] = start
end_of start (cut ∷ cuts) = end_of cut.end cuts

end_of-push : (start : ℕ) (cuts : List Cut) (cut : Cut) → end_of start (cuts ++ cut ∷ []) ≡ cut.end
end_of-push start [] cut = refl
end_of-push start (c ∷ cuts) cut = end_of-push c.end cuts cut

pub end_of-more : (start : ℕ) (cuts : List Cut) (i : ℕ) (cut : Cut) → i < length cuts → cut ≡ get_or cuts i cut → end_of start (take (i + 1) cuts) ≡ cut.end
end_of-more start cuts i cut within at = rw (take_more cuts i cut within, ← at) (end_of-push start (take i cuts) cut)

-- files from one place to another

between-append : (a b c : ℕ) (xs : List ℕ) → a ≤ b → b ≤ c → between a b xs ++ between b c xs ≡ between a c xs
between-append a b c xs ab bc = grind (arith, common_steps, take-add (b - a) (c - b) (drop a xs), drop-drop (b - a) a xs)

between-same : (a : ℕ) (xs : List ℕ) → between a a xs ≡ []
between-same a xs = let none : a - a ≡ 0 = omega arith in ap (λ n. take n (drop a xs)) none

between-left : (a b : ℕ) (xs ys : List ℕ) → b ≤ length xs → between a b (xs ++ ys) ≡ between a b xs
between-left a b xs ys within = rw (between_is, between_is, take-append-le b xs ys within)

between_at : (xs ys zs : List ℕ) (a b : ℕ) → length xs ≡ a → length xs + length ys ≡ b → between a b (xs ++ (ys ++ zs)) ≡ ys
between_at xs ys zs a b start end = ap (take (b - a)) (drop_at xs (ys ++ zs) a start) ∙ take_at ys zs (b - a) (omega arith)

-- the files of parts

pub length-parts_from : (start : ℕ) (cuts : List Cut) (files : List ℕ) → length (parts_from start cuts files) ≡ length cuts
length-parts_from start [] files = refl
length-parts_from start (cut ∷ cuts) files = ap suc (length-parts_from cut.end cuts files)

-- as many places as parts
pub places : (parts : List Part) (cuts : List Cut) (files : List ℕ) (n : ℕ) → parts_from 0 cuts files ≡ parts → n ≤ length parts → n ≤ length cuts
places parts cuts files n view h = let same : length (parts_from 0 cuts files) ≡ length parts = ap (λ (ps : List Part). length ps) view in omega (arith, same, length-parts_from 0 cuts files)

start_within : (start : ℕ) (cuts : List Cut) (files : List ℕ) → AreCut start cuts files → start ≤ length files
start_within start [] files h = omega arith
start_within start (cut ∷ cuts) files h = omega (arith, h.0, h.1, start_within cut.end cuts files h.4)

-- the first parts end after they begin, and no later than the files
pub ends_within : (n start : ℕ) (cuts : List Cut) (files : List ℕ) → AreCut start cuts files → (start ≤ end_of start (take n cuts)) × (end_of start (take n cuts) ≤ length files)
ends_within zero start cuts files h = grind (arith, common_steps, start_within)
ends_within (suc n) start [] files h = grind (arith, common_steps)
ends_within (suc n) start (cut ∷ cuts) files h = grind (arith, common_steps, ends_within n)

files_between : (n start : ℕ) (cuts : List Cut) (files : List ℕ) → AreCut start cuts files → files_in (take n (parts_from start cuts files)) ≡ between start (end_of start (take n cuts)) files
files_between zero start cuts files h = grind (arith, common_steps, between-same)
files_between (suc n) start [] files h = grind (arith, common_steps, between-same)
files_between (suc n) start (cut ∷ cuts) files h = grind (arith, common_steps, between-append, ends_within, files_between n)

pub files_of_first : (n : ℕ) (cuts : List Cut) (files : List ℕ) → AreCut 0 cuts files → files_in (take n (parts_from 0 cuts files)) ≡ take (end_of 0 (take n cuts)) files
files_of_first n cuts files h = files_between n 0 cuts files h ∙ between_from_start files (end_of 0 (take n cuts))

end_of_all : (start : ℕ) (cuts : List Cut) (files : List ℕ) → AreCut start cuts files → end_of start cuts ≡ length files
end_of_all start [] files h = h
end_of_all start (cut ∷ cuts) files h = end_of_all cut.end cuts files h.4

pub files_of_all : (cuts : List Cut) (files : List ℕ) → AreCut 0 cuts files → files_in (parts_from 0 cuts files) ≡ files
files_of_all cuts files h =
    let end : end_of 0 (take (length cuts) cuts) ≡ length files = ap (end_of 0) (take_all (length cuts) cuts (omega arith)) ∙ end_of_all 0 cuts files h in
    ap files_in (sym (take_all (length cuts) (parts_from 0 cuts files) (omega (arith, length-parts_from 0 cuts files)))) ∙ files_of_first (length cuts) cuts files h ∙ take_all _ files
    (omega (arith, end))

-- what is known of the part at a place
cut_at : (i start : ℕ) (cuts : List Cut) (files : List ℕ) (d : Cut) → AreCut start cuts files → i < length cuts → IsCutAt (end_of start (take i cuts)) (get_or cuts i d) files
cut_at i start [] files d h within = absurd (omega arith)
cut_at zero start (cut ∷ cuts) files d h within = record { begins = h.0; ends = h.1; within = start_within cut.end cuts files h.4; fresh = h.2; reused = h.3 }
cut_at (suc i) start (cut ∷ cuts) files d h within = cut_at i cut.end cuts files d h.4 (omega arith)

-- one part more

module _ (files fresh reused : List ℕ) (cut : Cut) (middle : length files + length fresh ≡ cut.middle) (end : cut.middle + length reused ≡ cut.end) where
  abbrev all : List ℕ
  all = files ++ (fresh ++ reused)

  fresh_at : (start : ℕ) → start ≡ length files → between start cut.middle all ≡ fresh
  fresh_at start s = between_at files fresh reused start cut.middle (sym s) middle

  reused_at : between cut.middle cut.end all ≡ reused
  reused_at =
      let split : all ≡ (files ++ fresh) ++ (reused ++ []) = grind (arith, common_steps) in
      rw split (between_at (files ++ fresh) reused [] cut.middle cut.end (omega (arith, length-append files fresh)) (omega (arith, length-append files fresh)))

  length_all : length all ≡ cut.end
  length_all = omega (arith, length-append files (fresh ++ reused), length-append fresh reused)

  pub parts_from-push : (start : ℕ) (cuts : List Cut) → AreCut start cuts files
      → parts_from start (cuts ++ cut ∷ []) all ≡ parts_from start cuts files ++ record { subtask = cut.subtask; fresh = fresh; reused = reused } ∷ []
  parts_from-push start [] h =
      ap (λ (xs : List ℕ). record { subtask = cut.subtask; fresh = xs; reused = between cut.middle cut.end all } ∷ []) (fresh_at start h) ∙ ap
      (λ (xs : List ℕ). record { subtask = cut.subtask; fresh = fresh; reused = xs } ∷ []) reused_at
  parts_from-push start (c ∷ cuts) h =
      let below : c.end ≤ length files = start_within c.end cuts files h.4 in
      let rest : List Part = parts_from c.end (cuts ++ cut ∷ []) all in
      ap (λ (xs : List ℕ). record { subtask = c.subtask; fresh = xs; reused = between c.middle c.end all } ∷ rest) (between-left start c.middle files (fresh ++ reused) (omega (arith, below, h.1)))
      ∙ ap (λ (xs : List ℕ). record { subtask = c.subtask; fresh = between start c.middle files; reused = xs } ∷ rest) (between-left c.middle c.end files (fresh ++ reused) below)
      ∙ ap (λ (ps : List Part). record { subtask = c.subtask; fresh = between start c.middle files; reused = between c.middle c.end files } ∷ ps) (parts_from-push c.end cuts h.4)

  pub AreCut-push : (start : ℕ) (cuts : List Cut) → IsAscending fresh → IsAscending reused → AreCut start cuts files → AreCut start (cuts ++ cut ∷ []) all
  AreCut-push start [] f r h = (omega arith, omega arith, subst IsAscending (sym (fresh_at start h)) f, subst IsAscending (sym reused_at) r, sym length_all)
  AreCut-push start (c ∷ cuts) f r h =
      let below : c.end ≤ length files = start_within c.end cuts files h.4 in (
        h.0,
        h.1,
        subst IsAscending (sym (between-left start c.middle files (fresh ++ reused) (omega (arith, below, h.1)))) h.2,
        subst IsAscending
            (sym (between-left c.middle c.end files (fresh ++ reused) below)) h.3,
        AreCut-push c.end cuts f r h.4,
      )

-- how often files from one place to another have a file

pub times-between : (f start : ℕ) (cut : Cut) (files : List ℕ) → IsCutAt start cut files
    → times f (between start cut.end files) ≡ times f (between start cut.middle files) + times f (between cut.middle cut.end files)
times-between f start cut files h = rw (← between-append start cut.middle cut.end files h.begins h.ends) (times-append f (between start cut.middle files) (between cut.middle cut.end files))

-- the files of one part more
times-more : (f i : ℕ) (cuts : List Cut) (files : List ℕ) (cut : Cut) → AreCut 0 cuts files → i < length cuts → cut ≡ get_or cuts i cut
    → times f (files_in (take (i + 1) (parts_from 0 cuts files))) ≡ times f (files_in (take i (parts_from 0 cuts files))) + times f (between (end_of 0 (take i cuts)) cut.end files)
times-more f i cuts files cut h within at =
    let start : ℕ = end_of 0 (take i cuts) in
    let here : IsCutAt start cut files = rw at (cut_at i 0 cuts files cut h within) in
    rw (
      files_between (i + 1) 0 cuts files h,
      end_of-more 0 cuts i cut within at,
      files_between i 0 cuts files h,
      ← between-append 0 start cut.end files (omega arith)
          (omega (arith, here.begins, here.ends)),
    )
    (times-append f (between 0 start files) (between start cut.end files))

-- What a walk over the first parts knows of the next one, and what it knows after it.

module _ (cuts : List Cut) (files : List ℕ) (n i : ℕ) (row : List Cut) (given : List ℕ) (d : Cut) (is : row ≡ cuts) (are : given ≡ files) (within : n ≤ length cuts) (below : i < length (take n row))
    (whole : AreCut 0 cuts files) where
  abbrev next : Cut
  next = get_or (take n row) i d

  next_below : i < n × i < length cuts
  next_below = let same : length row ≡ length cuts = ap (λ (cs : List Cut). length cs) is in (omega (arith, length-take n row), omega (arith, length-take n row))

  next_is : next ≡ get_or cuts i next
  next_is = ap (λ cs. get_or (take n cs) i d) is ∙ get_or-take n cuts i d next_below.0 ∙ get_or_default cuts i d next next_below.1

  pub next_cut : (start : ℕ) → start ≡ end_of 0 (take i cuts) → IsCutAt start next given
  next_cut start at = rw (at, are) (subst (λ k. IsCutAt (end_of 0 (take i cuts)) k files) (sym next_is) (cut_at i 0 cuts files next whole next_below.1))

  pub next_end : next.end ≡ end_of 0 (take (i + 1) cuts)
  next_end = sym (end_of-more 0 cuts i next next_below.1 next_is)

  pub next_times : (f start : ℕ) → start ≡ end_of 0 (take i cuts)
      → times f (files_in (take (i + 1) (parts_from 0 cuts files))) ≡ times f (files_in (take i (parts_from 0 cuts files))) + times f (between start next.end given)
  next_times f start at = rw (at, are) (times-more f i cuts files next whole next_below.1 next_is)

  -- no more than in all that the walk will visit
  pub next_among : (f : ℕ) → times f (files_in (take (i + 1) (parts_from 0 cuts files))) ≤ times f (files_in (take n (parts_from 0 cuts files)))
  next_among f = rw (← take-take (i + 1) n (parts_from 0 cuts files) (omega (arith, next_below.0))) (times_of_take files_of f (i + 1) (take n (parts_from 0 cuts files)))
