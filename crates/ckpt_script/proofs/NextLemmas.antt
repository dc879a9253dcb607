-- What the next line leaves of a run, if the text is known.
use Rattle.ckpt_script.proofs.Names.{◌≡◌, ◌≢◌, ℕ, ◌+◌, ◌<◌, ◌≤◌, Bool, false, cond, List, [], ◌++◌, take, Option, refl, sym, ap, subst, ◌∙◌, append-nil, IfSome, is_err, Keeps, prepend_known}
use Rattle.ckpt_script.proofs.Names.{reading, RunFault, Read, Write, TooManyLines, Memory, Summary, WhereKnown, Passes, IsCut, held, whole_lines, TakesPart, HoldsLine, HoldsPart, MOST_LINES, output}
use Rattle.ckpt_script.proofs.Names.{Scene, said, HasRun, Shows, IsSoFar, Stopped}
use Rattle.ckpt_script.proofs.KnownLemmas.{WhereKnown-keeps, WhereKnown-unread, WhereKnown-compose, WhereKnown-if, WhereKnown-map, WhereKnown-some}
use Rattle.ckpt_script.proofs.TellingLemmas.{run_on, cut_here, shown_front, run_part, run_full, Shows-passes, Shows-cut, Shows-as}

-- a fault after which only a prefix is sure
pub stopped_cut : (text rest before now : Option (List ℕ)) (waiting : List ℕ) (why : RunFault) → why ≢ Read → why ≢ TooManyLines
    → IfSome text (λ t. IsCut before now (output t)) → Stopped text rest before now waiting why
stopped_cut text rest before now waiting Read not_read not_many cut = absurd (not_read refl)
stopped_cut text rest before now waiting TooManyLines not_read not_many cut = absurd (not_many refl)
stopped_cut text rest before now waiting Write not_read not_many cut = cut
stopped_cut text rest before now waiting Memory not_read not_many cut = cut

-- a fault of the source or the sink, or out of memory
pub stopped_taking : (text rest before now : Option (List ℕ)) (waiting : List ℕ) (why : RunFault) → why ≢ TooManyLines
    → (why ≡ Read → Stopped text rest before now waiting Read) → IfSome text (λ t. IsCut before now (output t)) → Stopped text rest before now waiting why
stopped_taking text rest before now waiting Read not_many read cut = read refl
stopped_taking text rest before now waiting TooManyLines not_many read cut = absurd (not_many refl)
stopped_taking text rest before now waiting Write not_many read cut = cut
stopped_taking text rest before now waiting Memory not_many read cut = cut

-- what waited was written, or a part of it
pub so_far_shown : {now after : Option (List ℕ)} {waiting waiting' : List ℕ} (text left before : Option (List ℕ)) (was_ended : Bool) (summary : Summary) (scene : Scene)
    → IsSoFar text left before now was_ended summary scene waiting → Passes now after waiting [] waiting' → IsSoFar text left before after was_ended summary scene waiting'
so_far_shown text left before was_ended summary scene so_far passes =
    WhereKnown-map text left _ _ (λ t rest run. (run.0, run.1, Shows-as (Shows-passes run.2 passes) (append-nil run.0))) so_far

-- more was read ahead
pub so_far_filled : (text left filled before now : Option (List ℕ)) (was_ended is_ended : Bool) (summary : Summary) (scene : Scene) (waiting : List ℕ)
    → IsSoFar text left before now was_ended summary scene waiting → Keeps left filled → (is_ended ≡ false → was_ended ≡ false)
    → IsSoFar text filled before now is_ended summary scene waiting
so_far_filled text left filled before now was_ended is_ended summary scene waiting so_far kept stays =
    WhereKnown-map text filled _ _ (λ t rest run. (run.0, as_ended run.1, run.2))
    (WhereKnown-keeps text left filled (λ t rest. (shown : List ℕ) × HasRun t rest was_ended summary scene shown × Shows before now waiting shown) so_far kept)
  where
    as_ended : {t rest shown : List ℕ} → HasRun t rest was_ended summary scene shown → HasRun t rest is_ended summary scene shown
    as_ended run = record {
      front = run.front;
      split = run.split;
      in_turn = run.in_turn;
      lines = run.lines;
      few = run.few;
      faults = run.faults;
      scene_is = run.scene_is;
      shown_is = run.shown_is;
      whole = λ e. run.whole (stays e);
    }

module _ (text left before now : Option (List ℕ)) (was_ended : Bool) (summary : Summary) (scene : Scene) (waiting : List ℕ)
    (so_far : IsSoFar text left before now was_ended summary scene waiting) (bytes : List ℕ) (known : Option (List ℕ)) (kept : Keeps left (prepend_known bytes known)) where
  abbrev HasShown : List ℕ → List ℕ → Type 0
  HasShown t rest = (shown : List ℕ) × HasRun t rest was_ended summary scene shown × Shows before now waiting shown

  -- the same, once more was read ahead
  filled : IsSoFar text (prepend_known bytes known) before now was_ended summary scene waiting
  filled = WhereKnown-keeps text left (prepend_known bytes known) HasShown so_far kept

  read_stops : (t bytes' rest part : List ℕ) → was_ended ≡ false → TakesPart bytes' rest part → HasShown t bytes'
      → (read more : List ℕ) × (t ≡ read ++ rest) × Shows before now waiting (output (whole_lines read)) × (output t ≡ output (whole_lines read) ++ more)
  read_stops t bytes' rest part going_on takes told =
      let stop = run_part told.1 going_on takes in let front = shown_front told.1 in
      (stop.0, front.0, stop.1, Shows-as told.2 stop.2, front.1 ∙ ap (λ xs. xs ++ front.0) stop.2)

  pub stopped_filling : bytes ≡ [] → was_ended ≡ false → Stopped text known before now waiting Read
  stopped_filling none going_on =
      WhereKnown-map text known HasShown _ (λ t rest run. read_stops t rest rest [] going_on (record { one_line = refl; split = refl }) run)
      (WhereKnown-unread text known bytes HasShown none filled)

  pub stopped_full : bytes ≢ [] → summary.lines ≡ MOST_LINES → Stopped text known before now waiting TooManyLines
  stopped_full some full =
      WhereKnown-if text (prepend_known bytes known) _ _
      (λ t rest run. let end = run_full run.0.1 run.1 full in (end.0, Shows-as run.0.2 end.1))
      (WhereKnown-some text known bytes HasShown some filled)

  pub cut_so_far : IfSome text (λ t. IsCut before now (output t))
  cut_so_far = WhereKnown-if text left HasShown _ (λ t rest told. let front = shown_front told.1 in Shows-cut front.0 told.2 front.1) so_far

  pub stopped_reading : (rest : Option (List ℕ)) (held_part : List ℕ) → was_ended ≡ false → WhereKnown (prepend_known bytes known) rest (λ all left'. HoldsPart all left' held_part)
      → Stopped text rest before now waiting Read
  stopped_reading rest held_part going_on part =
      WhereKnown-compose text (prepend_known bytes known) rest HasShown _ _ filled part (λ t all left' run takes. read_stops t all left' takes.0 going_on takes.1 run)

  module _ (rest after : Option (List ℕ)) (is_ended : Bool) (going_on : was_ended ≡ false) (some : bytes ≢ []) (held_line : List ℕ)
      (takes : WhereKnown (prepend_known bytes known) rest (λ all left'. HoldsLine is_ended all left' held_line))
      (cuts : (line : List ℕ) → reading (take held line) ≡ reading line) where
    -- the reading of what is held is that of the line
    meant : (line : List ℕ) → held_line ≡ take held line → reading held_line ≡ reading line
    meant line e = ap reading e ∙ cuts line

    pub cut_obeying : summary.lines < MOST_LINES → ((left' : List ℕ) × Passes now after waiting (said (summary.lines + 1) scene (reading held_line)).1 left')
        → IfSome text (λ t. IsCut before after (output t))
    cut_obeying few cut =
        WhereKnown-if text rest _ _ (λ t left' cut'. cut')
        (WhereKnown-compose text (prepend_known bytes known) rest _ _ (λ t left'. IsCut before after (output t)) (WhereKnown-some text known bytes HasShown some filled) takes
        (λ t all left' run line. let more = cut_here run.0.1 going_on run.1 line.1 few in
        Shows-cut more.0 (Shows-passes run.0.2 cut.1) (more.1 ∙ ap (λ r. (run.0.0 ++ (said (summary.lines + 1) scene r).1) ++ more.0) (sym (meant line.0 line.2)))))

    pub so_far_obeyed : (summary' : Summary) (scene' : Scene) (waiting' : List ℕ) → summary'.lines ≡ summary.lines + 1 → summary'.lines ≤ MOST_LINES
        → summary'.faults ≡ summary.faults + cond (is_err (reading held_line)) 1 0 → scene' ≡ (said (summary.lines + 1) scene (reading held_line)).0
        → Passes now after waiting (said (summary.lines + 1) scene (reading held_line)).1 waiting' → IsSoFar text rest before after is_ended summary' scene' waiting'
    so_far_obeyed summary' scene' waiting' lines few faults scene_is passes =
        WhereKnown-compose text (prepend_known bytes known) rest _ _ _ (WhereKnown-some text known bytes HasShown some filled) takes
        (λ t all left' run line. let same : reading held_line ≡ reading line.0 = meant line.0 line.2 in (
          run.0.0 ++ (said (summary.lines + 1) scene (reading line.0)).1,
          run_on run.0.1 going_on run.1 line.1 summary' scene' lines few
              (faults ∙ ap (λ r. summary.faults + cond (is_err r) 1 0) same) (scene_is ∙ ap (λ r. (said (summary.lines + 1) scene r).0) same),
          Shows-passes run.0.2 (subst (λ r. Passes now after waiting (said (summary.lines + 1) scene r).1 waiting') same passes),
        ))
