-- How far a run has come, from line to line.
use Rattle.ckpt_script.proofs.Names.{◌≡◌, ◌≢◌, ℕ, suc, ◌+◌, ◌-◌, ◌<◌, ◌≤◌, Bool, true, false, cond, List, [], ◌∷◌, ◌++◌, length, take, Option, refl, sym, ap, ◌∙◌, ⊎_elim, arith, append_assoc}
use Rattle.ckpt_script.proofs.Names.{append-nil, length-append, is_err, reading, Summary, Passes, IsCut, newline, lines_of, whole_lines, TakesLine, TakesPart, MOST_LINES, outputs, output}
use Rattle.ckpt_script.proofs.Names.{scene_after, faults_in, Scene, opening_scene, said, HasRun, Shows}
use Rattle.ckpt_script.proofs.LineLemmas.{some_lines, lines_of-line, lines_of-last, lines_of-append, whole_lines-append, whole_lines-ends}
use Rattle.ckpt_script.proofs.OutputLemmas.{outputs-more, scene_after-append, output-few, output-front}
use Rattle.ckpt_script.proofs.PassesLemmas.{Appends-trans}
use Rattle.std.proofs.lemmas.List.Sums.{sum_by-append}

-- the line is the first of what was left
first_line : {is_ended : Bool} {bytes rest line : List ℕ} → bytes ≢ [] → TakesLine is_ended bytes rest line → lines_of bytes ≡ line ∷ lines_of rest
first_line {is_ended} {bytes} {rest} {line} some takes =
    ⊎_elim
    (λ (e : bytes ≡ line ++ newline ∷ rest). ap lines_of e ∙ lines_of-line line rest takes.one_line)
    (λ (e : (bytes ≡ line) × (rest ≡ []) × (is_ended ≡ true)).
    ap lines_of e.0 ∙ lines_of-last line takes.one_line (λ none. some (e.0 ∙ none)) ∙ ap (λ (xs : List ℕ). line ∷ lines_of xs) (sym e.1))
    takes.split

-- what a line adds to the prefix that was run
pub record Adds (is_ended : Bool) (front bytes rest line : List ℕ) : Type 0 where
  pub front' : List ℕ
  pub split : front ++ bytes ≡ front' ++ rest
  pub lines : lines_of front' ≡ lines_of front ++ line ∷ []
  pub whole : is_ended ≡ false → whole_lines front' ≡ front'

adds : {is_ended : Bool} {bytes rest line : List ℕ} (front : List ℕ) → whole_lines front ≡ front → bytes ≢ [] → TakesLine is_ended bytes rest line
    → Adds is_ended front bytes rest line
adds {is_ended} {bytes} {rest} {line} front whole some takes =
    ⊎_elim
    (λ (e : bytes ≡ line ++ newline ∷ rest). record {
      front' = front ++ (line ++ newline ∷ []);
      split = rw e (simp append_assoc);
      lines = lines_of-append front (line ++ newline ∷ []) whole ∙ ap (λ ls. lines_of front ++ ls) (lines_of-line line [] takes.one_line);
      whole = λ going_on. rw (← append_assoc) (whole_lines-ends (front ++ line));
    })
    (λ (e : (bytes ≡ line) × (rest ≡ []) × (is_ended ≡ true)). record {
      front' = front ++ line;
      split = rw (e.0, e.1) (sym (append-nil (front ++ line)));
      lines = lines_of-append front line whole ∙ ap (λ ls. lines_of front ++ ls) (lines_of-last line takes.one_line (λ none. some (e.0 ∙ none)));
      whole = λ going_on. let clash : true ≡ false = sym e.2 ∙ going_on in absurd cc;
    })
    takes.split

module _ {text bytes rest line shown : List ℕ} {was_ended is_ended : Bool} {before : Summary} {scene : Scene}
    (so_far : HasRun text bytes was_ended before scene shown) (going_on : was_ended ≡ false) (some : bytes ≢ []) (takes : TakesLine is_ended bytes rest line) where
  abbrev lines : List (List ℕ)
  lines = lines_of so_far.front

  abbrev told : Scene × List ℕ
  told = said (before.lines + 1) scene (reading line)

  all_lines : lines_of text ≡ lines ++ line ∷ lines_of rest
  all_lines = so_far.in_turn ∙ ap (λ ls. lines ++ ls) (first_line some takes)

  -- what the line prints, by the scene before it
  said_here : said (1 + length lines) (scene_after 1 opening_scene lines) (reading line) ≡ told
  said_here = let number : 1 + length lines ≡ before.lines + 1 = omega (arith, so_far.lines) in rw (number, ← so_far.scene_is) refl

  pub run_on : (after : Summary) (scene' : Scene) → after.lines ≡ before.lines + 1 → after.lines ≤ MOST_LINES
      → after.faults ≡ before.faults + cond (is_err (reading line)) 1 0 → scene' ≡ told.0 → HasRun text rest is_ended after scene' (shown ++ told.1)
  run_on after scene' number few faults scene_is =
      let more : Adds is_ended so_far.front bytes rest line = adds so_far.front (so_far.whole going_on) some takes in
      let one : faults_in (line ∷ []) ≡ cond (is_err (reading line)) 1 0 = omega arith in
      let sums : faults_in (lines ++ line ∷ []) ≡ faults_in lines + faults_in (line ∷ []) = sum_by-append (λ l. cond (is_err (reading l)) 1 0) lines (line ∷ []) in
      record {
        front = more.front';
        split = so_far.split ∙ more.split;
        in_turn = all_lines ∙ sym (append_assoc lines (line ∷ []) (lines_of rest)) ∙ ap (λ ls. ls ++ lines_of rest) (sym more.lines);
        lines = rw (more.lines, length-append lines (line ∷ [])) (omega (arith, so_far.lines));
        few = few;
        faults = rw more.lines (omega (arith, faults, so_far.faults, sums, one));
        scene_is = scene_is ∙ ap (λ s. s.0) (sym said_here) ∙ sym (ap (scene_after 1 opening_scene) more.lines ∙ scene_after-append 1 opening_scene lines (line ∷ []));
        shown_is = ap (λ xs. xs ++ told.1) so_far.shown_is ∙ ap (λ (s : Scene × List ℕ). outputs 1 opening_scene lines ++ s.1) (sym said_here)
            ∙ sym (ap (outputs 1 opening_scene) more.lines ∙ outputs-more 1 opening_scene lines line);
        whole = more.whole;
      }

  -- what was shown, the text of the line, and what comes after
  pub cut_here : before.lines < MOST_LINES → (more : List ℕ) × (output text ≡ (shown ++ told.1) ++ more)
  cut_here few =
      let here : Scene × List ℕ = said (1 + length lines) (scene_after 1 opening_scene lines) (reading line) in
      let later : ℕ = MOST_LINES - length lines - 1 in
      let left : MOST_LINES - length lines ≡ suc later = omega (arith, so_far.lines) in
      let tail : List ℕ = outputs (1 + length lines + 1) here.0 (take later (lines_of rest)) in (
        tail,
        output-front text lines (line ∷ lines_of rest) all_lines (omega (arith, so_far.lines))
            ∙ ap (λ n. outputs 1 opening_scene lines ++ outputs (1 + length lines) (scene_after 1 opening_scene lines) (take n (line ∷ lines_of rest))) left
            ∙ sym (append_assoc (outputs 1 opening_scene lines) here.1 tail)
            ∙ ap (λ (xs : List ℕ). (xs ++ here.1) ++ tail) (sym so_far.shown_is)
            ∙ ap (λ (s : Scene × List ℕ). (shown ++ s.1) ++ tail) said_here,
      )

-- what is shown so far is a prefix of the output
pub shown_front : {text rest shown : List ℕ} {is_ended : Bool} {summary : Summary} {scene : Scene} → HasRun text rest is_ended summary scene shown
    → (more : List ℕ) × (output text ≡ shown ++ more)
shown_front {text} {rest} so_far =
    let lines : List (List ℕ) = lines_of so_far.front in
    let more : List ℕ = outputs (1 + length lines) (scene_after 1 opening_scene lines) (take (MOST_LINES - length lines) (lines_of rest)) in
    (more, output-front text lines (lines_of rest) so_far.in_turn (omega (arith, so_far.lines, so_far.few)) ∙ ap (λ xs. xs ++ more) (sym so_far.shown_is))

-- at the end of the text all lines have been run
pub all_run : {text rest shown : List ℕ} {is_ended : Bool} {summary : Summary} {scene : Scene} → HasRun text rest is_ended summary scene shown → rest ≡ []
    → (shown ≡ output text) × (length (lines_of text) ≤ MOST_LINES) × (summary ≡ record { lines = length (lines_of text); faults = faults_in (lines_of text) })
all_run {text} {summary = summary} so_far none =
    let all : lines_of so_far.front ≡ lines_of text = sym (so_far.in_turn ∙ ap (λ xs. lines_of so_far.front ++ lines_of xs) none ∙ append-nil (lines_of so_far.front)) in
    let lines : summary.lines ≡ length (lines_of text) = so_far.lines ∙ ap (length {A = List ℕ}) all in
    let few : length (lines_of text) ≤ MOST_LINES = omega (arith, lines, so_far.few) in (
      so_far.shown_is ∙ ap (outputs 1 opening_scene) all ∙ sym (output-few text few),
      few,
      (λ i. record { lines = lines i; faults = (so_far.faults ∙ ap faults_in all) i }),
    )

-- a part of a line was read, and then the reader failed
pub run_part : {text bytes rest part shown : List ℕ} {is_ended : Bool} {summary : Summary} {scene : Scene} → HasRun text bytes is_ended summary scene shown
    → is_ended ≡ false → TakesPart bytes rest part → (read : List ℕ) × (text ≡ read ++ rest) × (shown ≡ output (whole_lines read))
run_part {rest = rest} {part = part} so_far going_on takes =
    let whole : whole_lines (so_far.front ++ part) ≡ so_far.front = whole_lines-append so_far.front part (so_far.whole going_on) takes.one_line in (
      so_far.front ++ part,
      so_far.split ∙ ap (λ xs. so_far.front ++ xs) takes.split ∙ sym (append_assoc so_far.front part rest),
      so_far.shown_is ∙ sym (output-few so_far.front (omega (arith, so_far.lines, so_far.few))) ∙ ap output (sym whole),
    )

-- as many lines were run as are run at most, and more is left
pub run_full : {text bytes shown : List ℕ} {is_ended : Bool} {summary : Summary} {scene : Scene} → HasRun text bytes is_ended summary scene shown
    → bytes ≢ [] → summary.lines ≡ MOST_LINES → (MOST_LINES < length (lines_of text)) × (shown ≡ output text)
run_full {text} {bytes} so_far some full =
    let lines : List (List ℕ) = lines_of so_far.front in
    let all : length (lines_of text) ≡ length lines + length (lines_of bytes) = ap (length {A = List ℕ}) so_far.in_turn ∙ length-append lines (lines_of bytes) in
    let none : MOST_LINES - length lines ≡ 0 = omega (arith, so_far.lines) in (
      omega (arith, so_far.lines, some_lines bytes some),
      so_far.shown_is
          ∙ sym (append-nil (outputs 1 opening_scene lines))
          ∙ ap (λ n. outputs 1 opening_scene lines ++ outputs (1 + length lines) (scene_after 1 opening_scene lines) (take n (lines_of bytes))) (sym none)
          ∙ sym (output-front text lines (lines_of bytes) so_far.in_turn (omega (arith, so_far.lines))),
    )

-- what is written and what waits, from text to text

pub Shows-passes : {before after now : Option (List ℕ)} {waiting shown text left : List ℕ} → Shows before after waiting shown
    → Passes after now waiting text left → Shows before now left (shown ++ text)
Shows-passes {before} {after} {now} {waiting} {text = text} {left = left} shows passes = record {
  written = shows.written ++ passes.written;
  appended = Appends-trans before after now shows.written passes.written shows.appended passes.appended;
  all = append_assoc shows.written passes.written left ∙ ap (λ xs. shows.written ++ xs) passes.in_turn
      ∙ sym (append_assoc shows.written waiting text) ∙ ap (λ xs. xs ++ text) shows.all;
}

-- what was written is a prefix of the output, if what is shown is one
pub Shows-cut : {before after : Option (List ℕ)} {waiting shown all : List ℕ} (more : List ℕ) → Shows before after waiting shown → all ≡ shown ++ more → IsCut before after all
Shows-cut {waiting = waiting} more shows e =
    (shows.written, waiting ++ more, shows.appended, sym (append_assoc shows.written waiting more) ∙ ap (λ xs. xs ++ more) shows.all ∙ sym e)

pub Shows-as : {before after : Option (List ℕ)} {waiting shown same : List ℕ} → Shows before after waiting shown → shown ≡ same → Shows before after waiting same
Shows-as shows e = record { written = shows.written; appended = shows.appended; all = shows.all ∙ e }

-- nothing was run yet
pub run_none : (text : List ℕ) → HasRun text text false (record { lines = 0; faults = 0 }) opening_scene []
run_none text = record { front = []; split = refl; in_turn = refl; lines = refl; few = omega arith; faults = refl; scene_is = refl; shown_is = refl; whole = λ e. refl }
