-- The line of each call is read as that call.
use Rattle.ckpt_term_lines.proofs.Names.{◌≡◌, ℕ, Bool, true, false, eqb, length, List, [], ◌∷◌, ◌++◌, Ok, refl, sym, ap, subst, append_assoc, eqb-true, le-ltb, map, flat_map, codes, decimal}
use Rattle.ckpt_term_lines.proofs.Names.{Call, LONGEST_LINE, Line, Configuration, IsWithinLimits, limits_hold, spaced, Fits, FitsCall, call_text, settings_text, Each, IsWritten, each_next}
use Rattle.ckpt_term_lines.proofs.Names.{from_all, next, no_strip, plain_by, each-numbers, number_place-decimal, plain_number, plain_numbers, stays, Says, configure_parts, configure_written}
use Rattle.ckpt_term_lines.proofs.Names.{is_scripted, one, only, parts_4, says_call, settings_read, settings_words, trigger_written, IsAscending, FencedCall, TermLine, term_keyword_of}
use Rattle.ckpt_term_lines.proofs.Names.{configure_row, fence_row, forfeit_row, in_row, made_line, reserve_row, term_line_of, term_reading, term_row, trigger_row, without_term, advance_row}
use Rattle.ckpt_term_lines.proofs.Names.{FitsTermCall, IsTermReadAs, fence_text, made_text, term_text}
use Rattle.ckpt_term_lines.proofs.FirstWords.{as_script, as_script_in}
use Rattle.ckpt_lines.specs.declared.line.Line.TheVariants as script
use Rattle.ckpt_ids.specs.declared.call.Call.TheVariants as made
use Rattle.ckpt_terms.specs.declared.call.FencedCall.TheVariants as call
use Rattle.ckpt_term_lines.specs.declared.line.TermLine.TheVariants as line

-- The text has words that are read as this line.
record TermSays (read : TermLine) (text : List ℕ) : Type 0 where
  words : List (List ℕ)
  written : IsWritten text words
  is : term_line_of words ≡ Ok read

-- such a text is read as this line
read_back : (read : TermLine) (text : List ℕ) → TermSays read text → IsTermReadAs read text
unfolding term_reading
read_back read text says = λ short. rw (le-ltb LONGEST_LINE (length text) short, no_strip text says.written.1, says.written.0) says.is

-- the same of a text whose parts were appended one after the other
put_together : (text parts : List ℕ) (read : TermLine) → text ≡ parts → TermSays read parts → TermSays read text
put_together text parts read same says = subst (λ (t : List ℕ). TermSays read t) (sym same) says

says_plain : (read : Line) (text : List ℕ) → Says read text → TermSays (without_term read) text
says_plain read text says = record { words = says.words; written = says.written; is = as_script says.words read says.is }

says_fence : (first : ℕ) → Fits first → TermSays (line.Fence first) (fence_text first)
unfolding term_line_of term_keyword_of term_row fence_row fence_text
says_fence first fits = record {
  words = codes "fence" ∷ decimal first ∷ [];
  written = one (codes "fence") first (plain_by (codes "fence") refl) fits;
  is = rw (only first fits) refl;
}

says_reserve : (term count : ℕ) → Fits term → Fits count → TermSays (line.Call (call.Reserve term count)) (codes "reserve" ++ 32 ∷ (decimal term ++ 32 ∷ decimal count))
unfolding term_line_of term_keyword_of term_row reserve_row
says_reserve term count fits fits' = record {
  words = codes "reserve" ∷ decimal term ∷ decimal count ∷ [];
  written = next (codes "reserve") (decimal term ++ 32 ∷ decimal count) (decimal term ∷ decimal count ∷ []) (plain_by (codes "reserve") refl) (one (decimal term) count (plain_number term fits) fits');
  is = rw (number_place-decimal term (decimal count ∷ []) fits, only count fits') refl;
}

says_forfeit : (term : ℕ) (names : List ℕ) → Fits term → Each Fits names → IsAscending names
    → TermSays (line.Call (call.Forfeit term names)) (codes "forfeit" ++ 32 ∷ (decimal term ++ flat_map (λ n. 32 ∷ decimal n) names))
unfolding term_line_of term_keyword_of term_row forfeit_row
says_forfeit term names fits all order = record {
  words = codes "forfeit" ∷ decimal term ∷ map decimal names;
  written = next (codes "forfeit") (decimal term ++ flat_map (λ n. 32 ∷ decimal n) names) (decimal term ∷ map decimal names) (plain_by (codes "forfeit") refl)
      (each_next decimal (decimal term) names (plain_number term fits) (plain_numbers names all));
  is = rw (number_place-decimal term (map decimal names) fits, each-numbers names all, stays names order) refl;
}

says_advance : (now term first : ℕ) → Fits now → Fits term → Fits first
    → TermSays (line.Call (call.Advance now term first)) (codes "advance" ++ 32 ∷ (decimal now ++ 32 ∷ (decimal term ++ 32 ∷ decimal first)))
unfolding term_line_of term_keyword_of term_row advance_row
says_advance now term first fits fits' fits'' = record {
  words = codes "advance" ∷ decimal now ∷ decimal term ∷ decimal first ∷ [];
  written = next (codes "advance") (decimal now ++ 32 ∷ (decimal term ++ 32 ∷ decimal first)) (decimal now ∷ decimal term ∷ decimal first ∷ []) (plain_by (codes "advance") refl)
      (next (decimal now) (decimal term ++ 32 ∷ decimal first) (decimal term ∷ decimal first ∷ []) (plain_number now fits) (one (decimal term) first (plain_number term fits') fits''));
  is = rw (number_place-decimal now (decimal term ∷ decimal first ∷ []) fits, number_place-decimal term (decimal first ∷ []) fits', only first fits'') refl;
}

-- a call of a script, with a term
says_in : (term : ℕ) (c : Call) → is_scripted c ≡ true → Fits term → FitsCall c → TermSays (line.Call (call.Make term c)) (codes "in" ++ 32 ∷ (decimal term ++ 32 ∷ call_text c))
unfolding term_line_of term_keyword_of term_row in_row
says_in term c scripted fits call_fits =
    let said : Says (script.Call c) (call_text c) = says_call c scripted call_fits in
    record {
      words = codes "in" ∷ decimal term ∷ said.words;
      written = next (codes "in") (decimal term ++ 32 ∷ call_text c) (decimal term ∷ said.words) (plain_by (codes "in") refl)
          (next (decimal term) (call_text c) said.words (plain_number term fits) said.written);
      is = rw (number_place-decimal term said.words fits, as_script_in term said.words c said.is) refl;
    }

-- a checkpoint now
trigger_row-is : (term now : ℕ) → Fits now → trigger_row term (decimal now ∷ []) ≡ Ok (line.Call (call.Make term (made.Trigger now)))
unfolding trigger_row
trigger_row-is term now fits = rw (only now fits) refl

says_trigger : (now : ℕ) → Fits now → TermSays (line.Call (call.Make 0 (made.Trigger now))) (codes "trigger" ++ 32 ∷ decimal now)
unfolding term_line_of term_keyword_of term_row
says_trigger now fits = record { words = codes "trigger" ∷ decimal now ∷ []; written = trigger_written now fits; is = trigger_row-is 0 now fits }

says_trigger_in : (term now : ℕ) → Fits term → Fits now → TermSays (line.Call (call.Make term (made.Trigger now))) (codes "in" ++ 32 ∷ (decimal term ++ 32 ∷ (codes "trigger" ++ 32 ∷ decimal now)))
unfolding term_line_of term_keyword_of term_row in_row made_line
says_trigger_in term now fits fits' = record {
  words = codes "in" ∷ decimal term ∷ codes "trigger" ∷ decimal now ∷ [];
  written = next (codes "in") _ _ (plain_by (codes "in") refl) (next (decimal term) _ _ (plain_number term fits) (trigger_written now fits'));
  is = rw (number_place-decimal term (codes "trigger" ∷ decimal now ∷ []) fits, trigger_row-is term now fits') refl;
}

-- other settings
configure_row-is : (term now : ℕ) (c : Configuration) → Fits now → IsWithinLimits c → configure_row term (decimal now ∷ settings_words c) ≡ Ok (line.Call (call.Make term (made.Configure now c)))
unfolding configure_row
configure_row-is term now c fits is = rw (number_place-decimal now (settings_words c) fits, settings_read c is, limits_hold c is) refl

says_configure : (now : ℕ) (c : Configuration) → Fits now → IsWithinLimits c → TermSays (line.Call (call.Make 0 (made.Configure now c))) (codes "configure" ++ 32 ∷ (decimal now ++ settings_text c))
unfolding term_line_of term_keyword_of term_row
says_configure now c fits is = record { words = codes "configure" ∷ decimal now ∷ settings_words c; written = configure_written now c fits is; is = configure_row-is 0 now c fits is }

says_configure_in : (term now : ℕ) (c : Configuration) → Fits term → Fits now → IsWithinLimits c →
    TermSays (line.Call (call.Make term (made.Configure now c))) (codes "in" ++ 32 ∷ (decimal term ++ 32 ∷ (codes "configure" ++ 32 ∷ (decimal now ++ settings_text c))))
unfolding term_line_of term_keyword_of term_row in_row made_line
says_configure_in term now c fits fits' is = record {
  words = codes "in" ∷ decimal term ∷ codes "configure" ∷ decimal now ∷ settings_words c;
  written = next (codes "in") _ _ (plain_by (codes "in") refl) (next (decimal term) _ _ (plain_number term fits) (configure_written now c fits' is));
  is = rw (number_place-decimal term (codes "configure" ∷ decimal now ∷ settings_words c) fits, configure_row-is term now c fits' is) refl;
}

-- with a term of a task, or with none
made_says : (term : ℕ) (c : Call) → (term ≡ 0 → TermSays (line.Call (call.Make term c)) (call_text c)) →
    TermSays (line.Call (call.Make term c)) (codes "in" ++ 32 ∷ (decimal term ++ 32 ∷ call_text c)) → TermSays (line.Call (call.Make term c)) (made_text term c)
made_says term c plain inside = by (eqb term 0) refl
  where
    by : (b : Bool) → eqb term 0 ≡ b → TermSays (line.Call (call.Make term c)) (made_text term c)
    by true none = rw none (plain (eqb-true term 0 none))
    by false some = rw some (put_together _ _ _ (parts_4 (codes "in") (spaced term) (codes " ") (call_text c)) inside)

says_scripted : (term : ℕ) (c : Call) → is_scripted c ≡ true → Fits term → FitsCall c → TermSays (line.Call (call.Make term c)) (made_text term c)
says_scripted term c scripted fits call_fits =
    made_says term c (λ zero. subst (λ (n : ℕ). TermSays (line.Call (call.Make n c)) (call_text c)) (sym zero) (says_plain (script.Call c) (call_text c) (says_call c scripted call_fits)))
    (says_in term c scripted fits call_fits)

says_made : (term : ℕ) (c : Call) → Fits term → FitsCall c → TermSays (line.Call (call.Make term c)) (made_text term c)
unfolding call_text
says_made term (made.Trigger now) fits call_fits =
    made_says term (made.Trigger now) (λ zero. subst (λ (n : ℕ). TermSays (line.Call (call.Make n (made.Trigger now))) (codes "trigger" ++ 32 ∷ decimal now)) (sym zero) (says_trigger now call_fits))
    (says_trigger_in term now fits call_fits)
says_made term (made.Configure now c) fits call_fits =
    let text : List ℕ = codes "configure" ++ 32 ∷ (decimal now ++ settings_text c) in
    let same : call_text (made.Configure now c) ≡ text = configure_parts now c in
    made_says term (made.Configure now c)
    (λ zero. put_together _ _ _ same (subst (λ (n : ℕ). TermSays (line.Call (call.Make n (made.Configure now c))) text) (sym zero) (says_configure now c call_fits.0 call_fits.1)))
    (put_together _ _ _ (ap (λ (t : List ℕ). codes "in" ++ 32 ∷ (decimal term ++ 32 ∷ t)) same) (says_configure_in term now c fits call_fits.0 call_fits.1))
says_made term (made.Tick now) fits call_fits = says_scripted term (made.Tick now) refl fits call_fits
says_made term (made.Savepoint now) fits call_fits = says_scripted term (made.Savepoint now) refl fits call_fits
says_made term (made.Ack now id s fresh reused) fits call_fits = says_scripted term (made.Ack now id s fresh reused) refl fits call_fits
says_made term (made.Decline now id s) fits call_fits = says_scripted term (made.Decline now id s) refl fits call_fits
says_made term (made.Dispose id) fits call_fits = says_scripted term (made.Dispose id) refl fits call_fits
says_made term (made.Restore now t shape) fits call_fits = says_scripted term (made.Restore now t shape) refl fits call_fits
says_made term (made.Cancel now) fits call_fits = says_scripted term (made.Cancel now) refl fits call_fits
says_made term (made.Take most) fits call_fits = says_scripted term (made.Take most) refl fits call_fits
says_made term (made.Deleted file) fits call_fits = says_scripted term (made.Deleted file) refl fits call_fits
says_made term (made.Undeleted file) fits call_fits = says_scripted term (made.Undeleted file) refl fits call_fits
says_made term (made.Show id) fits call_fits = says_scripted term (made.Show id) refl fits call_fits
says_made term (made.Count file) fits call_fits = says_scripted term (made.Count file) refl fits call_fits

says : (c : FencedCall) → FitsTermCall c → TermSays (line.Call c) (term_text c)
unfolding term_text
says (call.Reserve term count) fits = put_together _ _ _ (append_assoc (codes "reserve") (spaced term) (spaced count)) (says_reserve term count fits.0 fits.1)
says (call.Forfeit term names) fits = put_together _ _ _ (append_assoc (codes "forfeit") (spaced term) (flat_map spaced names)) (says_forfeit term names fits.0 (from_all Fits names fits.1.0) fits.1.1)
says (call.Advance now term first) fits =
    put_together _ _ _ (parts_4 (codes "advance") (spaced now) (spaced term) (spaced first)) (says_advance now term first fits.0 fits.1 fits.2)
says (call.Make term c) fits = says_made term c fits.0 fits.1

pub reads : (c : FencedCall) → FitsTermCall c → IsTermReadAs (line.Call c) (term_text c)
reads c fits = read_back (line.Call c) (term_text c) (says c fits)

pub reads_fence : (first : ℕ) → Fits first → IsTermReadAs (line.Fence first) (fence_text first)
reads_fence first fits = read_back (line.Fence first) (fence_text first) (says_fence first fits)
