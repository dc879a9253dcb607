-- What is written when a run ends.
use Rattle.ckpt_script.proofs.Names.{◌≡◌, ℕ, Bool, true, false, List, [], ◌++◌, Option, None, Some, refl, sym, ap, ◌∙◌, append_assoc, append-nil, IfSome, Ok, Err, Appends, IsAtEnd}
use Rattle.ckpt_script.proofs.Names.{prepend_known, RunFault, Read, Write, TooManyLines, Memory, Summary, WhereKnown, IsCut, output, Ran, Scene, opening_scene, Shows, IsSoFar, Stopped}
use Rattle.ckpt_script.proofs.Names.{keeps_lines}
use Rattle.ckpt_script.proofs.KnownLemmas.{WhereKnown-map, WhereKnown-if}
use Rattle.ckpt_script.proofs.PassesLemmas.{Appends-trans, Appends-as, Appends-none}
use Rattle.ckpt_script.proofs.TellingLemmas.{run_none, all_run}

module _ {before now : Option (List ℕ)} {waiting shown : List ℕ} (after : Option (List ℕ)) (shows : Shows before now waiting shown) where
  -- all that waited was written
  written_out : Appends now after waiting → Appends before after shown
  written_out out = Appends-as before after (shows.written ++ waiting) shown shows.all (Appends-trans before now after shows.written waiting shows.appended out)

  -- a part of it was written
  cut_short : IsCut now after waiting → (more all : List ℕ) → all ≡ shown ++ more → IsCut before after all
  cut_short cut more all e = (
    shows.written ++ cut.0,
    cut.1 ++ more,
    Appends-trans before now after shows.written cut.0 shows.appended cut.2,
    (let same : (shows.written ++ cut.0) ++ (cut.1 ++ more) ≡ (shows.written ++ (cut.0 ++ cut.1)) ++ more = simp append_assoc in
        same ∙ ap (λ xs. (shows.written ++ xs) ++ more) cut.3 ∙ ap (λ xs. xs ++ more) shows.all ∙ sym e),
  )

if_map : (o : Option (List ℕ)) (P Q : List ℕ → Type 0) → ((x : List ℕ) → P x → Q x) → IfSome o P → IfSome o Q
if_map None P Q f p = tt
if_map (Some x) P Q f p = f x p

module _ (text rest before now after : Option (List ℕ)) (waiting : List ℕ) where
  pub stopped_whole : (fault : RunFault) → keeps_lines fault ≡ true → Stopped text rest before now waiting fault → Appends now after waiting
      → Ran text rest before after (Err fault)
  stopped_whole Read keeps stopped out = WhereKnown-map text rest _ _ (λ t r told. (told.0, told.2, written_out after told.3 out)) stopped
  stopped_whole TooManyLines keeps stopped out = if_map text _ _ (λ t told. (told.0, written_out after told.1 out)) stopped
  stopped_whole Write keeps stopped out = absurd cc
  stopped_whole Memory keeps stopped out = absurd cc

  pub stopped_short : (fault : RunFault) → keeps_lines fault ≡ true → Stopped text rest before now waiting fault → IsCut now after waiting → Ran text rest before after (Err Write)
  stopped_short Read keeps stopped cut = WhereKnown-if text rest _ _ (λ t r told. cut_short after told.3 cut told.1 (output t) told.4) stopped
  stopped_short TooManyLines keeps stopped cut = if_map text _ _ (λ t told. cut_short after told.1 cut [] (output t) (sym (append-nil (output t)))) stopped
  stopped_short Write keeps stopped cut = absurd cc
  stopped_short Memory keeps stopped cut = absurd cc

  pub stopped_cut_off : (fault : RunFault) → keeps_lines fault ≡ false → Stopped text rest before now waiting fault → Ran text rest before now (Err fault)
  stopped_cut_off Read keeps stopped = absurd cc
  stopped_cut_off TooManyLines keeps stopped = absurd cc
  stopped_cut_off Write keeps stopped = stopped
  stopped_cut_off Memory keeps stopped = stopped

-- nothing has been run
pub so_far_none : (known before : Option (List ℕ)) → IsSoFar known (prepend_known [] known) before before false (record { lines = 0; faults = 0 }) opening_scene []
so_far_none None before = tt
so_far_none (Some text) before = ([], run_none text, record { written = []; appended = Appends-none before; all = refl })

pub so_far_first : (known before : Option (List ℕ)) (bytes : List ℕ) (is_ended : Bool) (summary : Summary) (scene : Scene) (waiting : List ℕ)
    → bytes ≡ [] → is_ended ≡ false → summary ≡ record { lines = 0; faults = 0 } → scene ≡ opening_scene → waiting ≡ []
    → IsSoFar known (prepend_known bytes known) before before is_ended summary scene waiting
so_far_first known before bytes is_ended summary scene waiting none going_on first opens empty = rw (none, going_on, first, opens, empty) (so_far_none known before)

-- nothing has been written
pub cut_none : (known before : Option (List ℕ)) → Ran known known before before (Err Memory)
cut_none None before = tt
cut_none (Some text) before = ([], output text, Appends-none before, refl)

-- nothing is left
at_end : (t k : Option (List ℕ)) (xs : List ℕ) (P : List ℕ → List ℕ → Type 0) → xs ≡ [] → IsAtEnd k → WhereKnown t (prepend_known xs k) P
    → WhereKnown t (prepend_known xs k) (λ x y. P x y × (y ≡ []))
at_end None k xs P none end p = tt
at_end (Some x) (Some z) xs P none end p = (p, ap (λ ys. ys ++ z) none ∙ end)
at_end (Some x) None xs P none end p = p

module _ (text known before now after : Option (List ℕ)) (bytes : List ℕ) (is_ended : Bool) (summary : Summary) (scene : Scene) (waiting : List ℕ)
    (so_far : IsSoFar text (prepend_known bytes known) before now is_ended summary scene waiting) (none : bytes ≡ []) (end : IsAtEnd known) where
  pub ran_all : Appends now after waiting → Ran text known before after (Ok summary)
  ran_all out =
      WhereKnown-if text (prepend_known bytes known) _ _
      (λ t rest run. let all = all_run run.0.1 run.1 in (Appends-as before after run.0.0 (output t) all.0 (written_out after run.0.2 out), all.1, all.2))
      (at_end text known bytes _ none end so_far)

  pub ran_short : IsCut now after waiting → Ran text known before after (Err Write)
  ran_short cut =
      WhereKnown-if text (prepend_known bytes known) _ _
      (λ t rest run. cut_short after run.0.2 cut [] (output t) (sym (append-nil run.0.0 ∙ (all_run run.0.1 run.1).0)))
      (at_end text known bytes _ none end so_far)
