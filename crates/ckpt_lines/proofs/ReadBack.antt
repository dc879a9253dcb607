-- The line of each call is read as that call.
use Rattle.ckpt_lines.proofs.Names.{◌≡◌, ℕ, ◌<◌, Bool, true, false, List, [], ◌∷◌, ◌++◌, Option, Some, None, Ok, refl, sym, ap, subst, ◌∙◌, arith, append_assoc, All, map, flat_map, codes, decimal}
use Rattle.ckpt_lines.proofs.Names.{SubtaskId, IsAscending, Line, Keyword, keyword_of, spelling, line_of, row, number_call, number_line, only_number, start_line, job_line, ack_line, decline_line}
use Rattle.ckpt_lines.proofs.Names.{restore_line, restoring, config_line, retention_place, target_place, ended, spaced, call_text, triggers_text, limits_text, subtask_text, files_text, config_text}
use Rattle.ckpt_lines.proofs.Names.{line_of_config, job_text, start_text, retention_text, parallelisms, Fits, FitsSubtask, FitsShape, FitsCall, IsReadAs, IsScriptLine, settings, settings_text}
use Rattle.ckpt_lines.proofs.KeywordLemmas.{found}
use Rattle.ckpt_lines.proofs.LineLemmas.{Each, from_all, IsPlain, IsWritten, last, next, each_next, each_before, plain_by, reading-written}
use Rattle.ckpt_lines.proofs.NumberWords.{subtask_word, plain_number, plain_numbers, plain_subtask, plain_files, number_place-decimal, subtask_place-word, target_place-decimal, target_place-latest}
use Rattle.ckpt_lines.proofs.NumberWords.{each-numbers, file_places-words}
use Rattle.ckpt_ids.specs.declared.call.Target.{Target}
use Rattle.ckpt_ids.specs.declared.call.Target.TheVariants as target
use Rattle.ckpt_ids.specs.declared.call.Call.{Call}
use Rattle.ckpt_ids.specs.declared.call.Call.TheVariants as call
use Rattle.std.proofs.lemmas.Bool.{false≢true}
use Rattle.ckpt_ids.specs.Shapes.{IsShape}
use Rattle.ckpt_ids.specs.declared.config.ConfigValues.{ConfigValues}
use Rattle.ckpt_ids.specs.Configuration.{Configuration, IsWithinLimits}
use Rattle.ckpt_ids.proofs.LimitLemmas.{shape_holds}
use Rattle.ckpt_lines.specs.declared.line.Line.TheVariants as line
use Rattle.ckpt_lines.specs.declared.keyword.Keyword.TheVariants as keyword
use Rattle.ckpt_answers.specs.MetadataTexts.{subtask_bytes}

-- The text has words that are read as this line.
pub record Says (read : Line) (text : List ℕ) : Type 0 where
  pub words : List (List ℕ)
  pub written : IsWritten text words
  pub is : line_of words ≡ Ok read

read_as : (text : List ℕ) (words : List (List ℕ)) (read : Line) → IsWritten text words → line_of words ≡ Ok read → Says read text
read_as text words read written is = record { words = words; written = written; is = is }

-- such a text is read as this line
read_back : (read : Line) (text : List ℕ) → Says read text → IsReadAs read text
read_back read text says = λ short. reading-written text says.words says.written short ∙ says.is

-- the same of a text whose parts were appended one after the other
put_together : (text parts : List ℕ) (read : Line) → text ≡ parts → Says read parts → Says read text
put_together text parts read same is = subst (λ (t : List ℕ). Says read t) (sym same) is

-- one number after the first word
pub one : (word : List ℕ) (n : ℕ) → IsPlain word → Fits n → IsWritten (word ++ 32 ∷ decimal n) (word ∷ decimal n ∷ [])
one word n plain fits = next word (decimal n) (decimal n ∷ []) plain (last (decimal n) (plain_number n fits))

pub only : (n : ℕ) → Fits n → only_number (decimal n ∷ []) ≡ Ok n
unfolding only_number ended
only n fits = rw (number_place-decimal n [] fits) refl

pub says_start : (now : ℕ) → Fits now → Says (line.Start now) (start_text now)
unfolding line_of keyword_of row start_line start_text
says_start now fits = read_as _ _ _ (one (codes "start") now (plain_by (codes "start") refl) fits) (rw (only now fits) refl)

-- a call of one number is read as its keyword says
numbered : (first : Keyword) (n : ℕ) → IsPlain (spelling first) → Fits n → row first (decimal n ∷ []) ≡ number_line first (decimal n ∷ [])
    → Says (line.Call (number_call first n)) (spelling first ++ 32 ∷ decimal n)
unfolding line_of number_line
numbered first n plain fits is = read_as _ _ _ (one (spelling first) n plain fits) (rw ((found first).0, (found first).1, is, only n fits) refl)

-- two numbers between the first word and the rest
two : (word : List ℕ) (m n : ℕ) (rest : List ℕ) (words : List (List ℕ)) → IsPlain word → Fits m → Fits n → IsWritten rest words
    → IsWritten (word ++ 32 ∷ (decimal m ++ 32 ∷ (decimal n ++ 32 ∷ rest))) (word ∷ decimal m ∷ decimal n ∷ words)
two word m n rest words plain fits fits' written =
    next word _ _ plain (next (decimal m) _ _ (plain_number m fits) (next (decimal n) rest words (plain_number n fits') written))

pub decline : (now id : ℕ) (s : SubtaskId) → Fits now → Fits id → FitsSubtask s
    → Says (line.Call (call.Decline now id s)) (codes "decline" ++ 32 ∷ (decimal now ++ 32 ∷ (decimal id ++ 32 ∷ subtask_word s)))
unfolding line_of keyword_of row decline_line ended
decline now id s now_fits id_fits s_fits =
    read_as _ _ _ (two (codes "decline") now id (subtask_word s) _ (plain_by (codes "decline") refl) now_fits id_fits (last (subtask_word s) (plain_subtask s s_fits)))
    (rw (number_place-decimal, number_place-decimal, subtask_place-word s [] s_fits) refl)

pub ack : (now id : ℕ) (s : SubtaskId) (fresh reused : List ℕ) → Fits now → Fits id → FitsSubtask s → Each Fits fresh → Each Fits reused → IsAscending fresh → IsAscending reused
    → Says (line.Call (call.Ack now id s fresh reused)) (codes "ack" ++ 32 ∷ (decimal now ++ 32 ∷ (decimal id ++ 32 ∷ (subtask_word s ++ files_text fresh reused))))
unfolding line_of keyword_of row ack_line
ack now id s fresh reused now_fits id_fits s_fits fresh_fit reused_fit order order' =
    let plus : 32 < 43 = omega arith in let equals : 32 < 61 = omega arith in
    let words : List (List ℕ) = map (λ f. 43 ∷ decimal f) fresh ++ map (λ f. 61 ∷ decimal f) reused in
    let files : IsWritten (subtask_word s ++ files_text fresh reused) (subtask_word s ∷ words) =
    each_before (λ f. 43 ∷ decimal f) (subtask_word s) _ _ fresh (plain_subtask s s_fits) (plain_files 43 fresh plus fresh_fit)
    (λ w plain. each_next (λ f. 61 ∷ decimal f) w reused plain (plain_files 61 reused equals reused_fit)) in
    read_as _ (codes "ack" ∷ decimal now ∷ decimal id ∷ subtask_word s ∷ words) _ (two (codes "ack") now id _ _ (plain_by (codes "ack") refl) now_fits id_fits files)
    (rw (number_place-decimal, number_place-decimal, subtask_place-word s words s_fits, file_places-words fresh reused fresh_fit reused_fit order order') refl)

restore_rest : (now : ℕ) (word : List ℕ) (shape : List ℕ) → Fits now → IsPlain word → Each Fits shape
    → IsWritten (codes "restore" ++ 32 ∷ (decimal now ++ 32 ∷ (word ++ flat_map (λ n. 32 ∷ decimal n) shape))) (codes "restore" ∷ decimal now ∷ word ∷ map decimal shape)
restore_rest now word shape fits plain all =
    next (codes "restore") _ _ (plain_by (codes "restore") refl) (next (decimal now) _ _ (plain_number now fits) (each_next decimal word shape plain (plain_numbers shape all)))

-- a shape is the new shape, and none stays the old one
restoring-call : (now : ℕ) (t : Target) (shape : Option (List ℕ)) → FitsShape shape → restoring now t (parallelisms shape) ≡ line.Call (call.Restore now t shape)
restoring-call now t None fits = refl
restoring-call now t (Some []) fits = absurd (omega (arith, fits.0.vertices_from))
restoring-call now t (Some (p ∷ ps)) fits = rw (shape_holds (p ∷ ps) fits.0) refl

each_fits : (shape : Option (List ℕ)) → FitsShape shape → Each Fits (parallelisms shape)
each_fits None fits = tt
each_fits (Some shape) fits = from_all Fits shape fits.1

restore : (now : ℕ) (word : List ℕ) (t : Target) (shape : Option (List ℕ)) → Fits now → IsPlain word → FitsShape shape
    → target_place (word ∷ map decimal (parallelisms shape)) ≡ Ok (t, map decimal (parallelisms shape))
    → Says (line.Call (call.Restore now t shape)) (codes "restore" ++ 32 ∷ (decimal now ++ 32 ∷ (word ++ flat_map (λ n. 32 ∷ decimal n) (parallelisms shape))))
unfolding line_of keyword_of row restore_line
restore now word t shape fits plain whole target =
    let all = each_fits shape whole in
    read_as _ _ _ (restore_rest now word (parallelisms shape) fits plain all)
    (rw (number_place-decimal, target, each-numbers (parallelisms shape) all, restoring-call now t shape whole) refl)

pub says_job : (first : ℕ) (others : List ℕ) → Each Fits (first ∷ others) → Says (line.Job (first ∷ others)) (job_text (first ∷ others))
unfolding job_text line_of keyword_of row job_line
says_job first others all =
    read_as _ (codes "job" ∷ map decimal (first ∷ others)) _ (each_next decimal (codes "job") (first ∷ others) (plain_by (codes "job") refl) (plain_numbers (first ∷ others) all))
    (rw (each-numbers (first ∷ others) all) refl)

pub says_job_of : (shape : List ℕ) → IsShape shape → All Fits shape → Says (line.Job shape) (job_text shape)
says_job_of [] is all = absurd (omega (arith, is.vertices_from))
says_job_of (first ∷ others) is all = says_job first others (from_all Fits (first ∷ others) all)

-- what the settings of a configuration are read as
abbrev pub values_of : Configuration → ConfigValues
values_of c = record {
  interval = c.interval;
  pause = c.pause;
  at_once = c.at_once;
  timeout = c.timeout;
  tolerable = c.tolerable;
  retained = c.retained;
  keep_on_cancel = c.keep_on_cancel;
}

settings_row : (c : Configuration) (word : List ℕ) → Fits c.interval → Fits c.pause → Fits c.at_once → Fits c.timeout → Fits c.tolerable → Fits c.retained
    → retention_place (word ∷ []) ≡ Ok (c.keep_on_cancel, [])
    → settings (decimal c.interval ∷ decimal c.pause ∷ decimal c.at_once ∷ decimal c.timeout ∷ decimal c.tolerable ∷ decimal c.retained ∷ word ∷ []) ≡ Ok (values_of c)
unfolding settings ended
settings_row c word fi fp fa ft ff fr kept =
    rw (number_place-decimal, number_place-decimal, number_place-decimal, number_place-decimal, number_place-decimal, number_place-decimal, kept) refl

abbrev kept_word : Bool → List ℕ
kept_word true = codes "keep"
kept_word false = codes "delete"

plain_kept : (keep : Bool) → IsPlain (kept_word keep)
plain_kept true = plain_by (codes "keep") refl
plain_kept false = plain_by (codes "delete") refl

read_kept : (keep : Bool) → retention_place (kept_word keep ∷ []) ≡ Ok (keep, [])
unfolding retention_place
read_kept true = refl
read_kept false = refl

text_kept : (keep : Bool) → retention_text keep ≡ 32 ∷ kept_word keep
text_kept true = refl
text_kept false = refl

settings_parts : (b c d e f g h : List ℕ) → (b ++ c ++ d) ++ (e ++ f ++ g ++ h) ≡ (b ++ (c ++ (d ++ (e ++ (f ++ (g ++ [])))))) ++ h
settings_parts b c d e f g h = simp append_assoc

-- the numbers of the settings, and the words of all of them
abbrev pub settings_numbers : Configuration → List ℕ
settings_numbers c = c.interval ∷ c.pause ∷ c.at_once ∷ c.timeout ∷ c.tolerable ∷ c.retained ∷ []

abbrev pub settings_words : Configuration → List (List ℕ)
settings_words c = map decimal (settings_numbers c) ++ kept_word c.keep_on_cancel ∷ []

settings_are : (c : Configuration) → settings_text c ≡ flat_map spaced (settings_numbers c) ++ 32 ∷ kept_word c.keep_on_cancel
unfolding settings_text triggers_text limits_text
settings_are c =
    settings_parts (spaced c.interval) (spaced c.pause) (spaced c.at_once) (spaced c.timeout) (spaced c.tolerable) (spaced c.retained) (retention_text c.keep_on_cancel)
    ∙ ap (λ w. flat_map spaced (settings_numbers c) ++ w) (text_kept c.keep_on_cancel)

-- the settings after another word
pub settings_written : (front : List ℕ) (c : Configuration) → IsPlain front → IsWithinLimits c → IsWritten (front ++ settings_text c) (front ∷ settings_words c)
settings_written front c plain is =
    let i : Fits c.interval = omega (arith, is.interval_to) in let p : Fits c.pause = omega (arith, is.pause_to) in
    let a : Fits c.at_once = omega (arith, is.at_once_to) in let t : Fits c.timeout = omega (arith, is.timeout_to) in
    let f : Fits c.tolerable = omega (arith, is.tolerable_to) in let r : Fits c.retained = omega (arith, is.retained_to) in
    let ns : List ℕ = settings_numbers c in
    let word : List ℕ = kept_word c.keep_on_cancel in
    let written : IsWritten (front ++ (flat_map spaced ns ++ 32 ∷ word)) (front ∷ (map decimal ns ++ word ∷ [])) =
    each_before decimal front (32 ∷ word) (word ∷ []) ns plain (plain_numbers ns (i, (p, (a, (t, (f, (r, tt)))))))
    (λ w plain. next w word (word ∷ []) plain (last word (plain_kept c.keep_on_cancel))) in
    subst (λ (text : List ℕ). IsWritten (front ++ text) (front ∷ settings_words c)) (sym (settings_are c)) written

pub settings_read : (c : Configuration) → IsWithinLimits c → settings (settings_words c) ≡ Ok (values_of c)
settings_read c is =
    settings_row c (kept_word c.keep_on_cancel) (omega (arith, is.interval_to)) (omega (arith, is.pause_to)) (omega (arith, is.at_once_to)) (omega (arith, is.timeout_to))
    (omega (arith, is.tolerable_to)) (omega (arith, is.retained_to)) (read_kept c.keep_on_cancel)

pub says_config : (c : Configuration) → IsWithinLimits c → Says (line_of_config c) (config_text c)
unfolding config_text line_of keyword_of row config_line
says_config c is =
    read_as _ (codes "config" ∷ settings_words c) _ (settings_written (codes "config") c (plain_by (codes "config") refl) is) (rw (settings_read c is) refl)

-- every call
sub : (s : SubtaskId) → subtask_bytes s ≡ subtask_word s
sub s = append_assoc (decimal s.vertex) (codes ".") (decimal s.index)

pub parts_4 : (a b c d : List ℕ) → a ++ b ++ c ++ d ≡ a ++ (b ++ (c ++ d))
parts_4 a b c d = append_assoc (a ++ b) c d ∙ append_assoc a b (c ++ d)

parts_5 : (a b c d e : List ℕ) → a ++ b ++ c ++ d ++ e ≡ a ++ (b ++ (c ++ (d ++ e)))
parts_5 a b c d e = append_assoc (a ++ b ++ c) d e ∙ parts_4 a b c (d ++ e)

ack_parts : (now id : ℕ) (s : SubtaskId) (fresh reused : List ℕ)
    → call_text (call.Ack now id s fresh reused) ≡ codes "ack" ++ 32 ∷ (decimal now ++ 32 ∷ (decimal id ++ 32 ∷ (subtask_word s ++ files_text fresh reused)))
unfolding call_text
ack_parts now id s fresh reused =
    parts_5 (codes "ack") (spaced now) (spaced id) (subtask_text s) (files_text fresh reused)
    ∙ ap (λ w. codes "ack" ++ 32 ∷ (decimal now ++ 32 ∷ (decimal id ++ 32 ∷ (w ++ files_text fresh reused)))) (sub s)

decline_parts : (now id : ℕ) (s : SubtaskId) → call_text (call.Decline now id s) ≡ codes "decline" ++ 32 ∷ (decimal now ++ 32 ∷ (decimal id ++ 32 ∷ subtask_word s))
unfolding call_text
decline_parts now id s =
    parts_4 (codes "decline") (spaced now) (spaced id) (subtask_text s) ∙ ap (λ (w : List ℕ). codes "decline" ++ 32 ∷ (decimal now ++ 32 ∷ (decimal id ++ 32 ∷ w))) (sub s)

-- whether scripts have this call
abbrev pub is_scripted : Call → Bool
is_scripted (call.Trigger now) = false
is_scripted (call.Configure now config) = false
is_scripted made = true

pub says_call : (c : Call) → is_scripted c ≡ true → FitsCall c → Says (line.Call c) (call_text c)
unfolding call_text row
says_call (call.Tick now) _ fits = numbered keyword.Tick now (plain_by (codes "tick") refl) fits refl
says_call (call.Savepoint now) _ fits = numbered keyword.Savepoint now (plain_by (codes "savepoint") refl) fits refl
says_call (call.Ack now id s fresh reused) _ fits =
    put_together _ _ _ (ack_parts now id s fresh reused)
    (ack now id s fresh reused fits.0 fits.1 fits.2 (from_all Fits fresh fits.3.0) (from_all Fits reused fits.4.0) fits.3.1 fits.4.1)
says_call (call.Decline now id s) _ fits = put_together _ _ _ (decline_parts now id s) (decline now id s fits.0 fits.1 fits.2)
says_call (call.Dispose id) _ fits = numbered keyword.Dispose id (plain_by (codes "dispose") refl) fits refl
says_call (call.Restore now target.Latest shape) _ fits =
    put_together _ _ _ (parts_4 (codes "restore") (spaced now) (codes " latest") (flat_map spaced (parallelisms shape)))
    (restore now (codes "latest") target.Latest shape fits.0 (plain_by (codes "latest") refl) fits.2 (target_place-latest (map decimal (parallelisms shape))))
says_call (call.Restore now (target.Savepoint id) shape) _ fits =
    put_together _ _ _ (parts_4 (codes "restore") (spaced now) (spaced id) (flat_map spaced (parallelisms shape)))
    (restore now (decimal id) (target.Savepoint id) shape fits.0 (plain_number id fits.1) fits.2 (target_place-decimal id (map decimal (parallelisms shape)) fits.1))
says_call (call.Cancel now) _ fits = numbered keyword.Cancel now (plain_by (codes "cancel") refl) fits refl
says_call (call.Take most) _ fits = numbered keyword.Take most (plain_by (codes "take") refl) fits refl
says_call (call.Deleted file) _ fits = numbered keyword.Deleted file (plain_by (codes "deleted") refl) fits refl
says_call (call.Undeleted file) _ fits = numbered keyword.Undeleted file (plain_by (codes "undeleted") refl) fits refl
says_call (call.Show id) _ fits = numbered keyword.Show id (plain_by (codes "show") refl) fits refl
says_call (call.Count file) _ fits = numbered keyword.Count file (plain_by (codes "count") refl) fits refl
says_call (call.Trigger now) none fits = absurd (false≢true none)
says_call (call.Configure now config) none fits = absurd (false≢true none)

-- and so it is read
pub start : (now : ℕ) → Fits now → IsReadAs (line.Start now) (start_text now)
start now fits = read_back (line.Start now) (start_text now) (says_start now fits)

pub job_of : (shape : List ℕ) → IsShape shape → All Fits shape → IsReadAs (line.Job shape) (job_text shape)
job_of shape is all = read_back (line.Job shape) (job_text shape) (says_job_of shape is all)

pub config : (c : Configuration) → IsWithinLimits c → IsReadAs (line_of_config c) (config_text c)
config c is = read_back (line_of_config c) (config_text c) (says_config c is)

reads_as : (c : Call) → is_scripted c ≡ true → FitsCall c → IsReadAs (line.Call c) (call_text c)
reads_as c scripted fits = read_back (line.Call c) (call_text c) (says_call c scripted fits)

-- a line of a log alone: its first word is none of a script
pub trigger_written : (now : ℕ) → Fits now → IsWritten (codes "trigger" ++ 32 ∷ decimal now) (codes "trigger" ∷ decimal now ∷ [])
trigger_written now fits = one (codes "trigger") now (plain_by (codes "trigger") refl) fits

pub configure_written : (now : ℕ) (c : Configuration) → Fits now → IsWithinLimits c →
    IsWritten (codes "configure" ++ 32 ∷ (decimal now ++ settings_text c)) (codes "configure" ∷ decimal now ∷ settings_words c)
configure_written now c fits is = next (codes "configure") _ _ (plain_by (codes "configure") refl) (settings_written (decimal now) c (plain_number now fits) is)

pub configure_parts : (now : ℕ) (c : Configuration) → call_text (call.Configure now c) ≡ codes "configure" ++ 32 ∷ (decimal now ++ settings_text c)
unfolding call_text
configure_parts now c = append_assoc (codes "configure") (spaced now) (settings_text c)

no_trigger : (now : ℕ) → Fits now → IsScriptLine (call.Trigger now) (call_text (call.Trigger now))
unfolding call_text line_of keyword_of
no_trigger now fits = λ short. reading-written _ _ (trigger_written now fits) short

no_configure : (now : ℕ) (c : Configuration) → Fits now → IsWithinLimits c → IsScriptLine (call.Configure now c) (codes "configure" ++ 32 ∷ (decimal now ++ settings_text c))
unfolding line_of keyword_of
no_configure now c fits is = λ short. reading-written _ _ (configure_written now c fits is) short

pub reads : (c : Call) → FitsCall c → IsScriptLine c (call_text c)
reads (call.Trigger now) fits = no_trigger now fits
reads (call.Configure now c) fits = subst (λ (text : List ℕ). IsScriptLine (call.Configure now c) text) (sym (configure_parts now c)) (no_configure now c fits.0 fits.1)
reads (call.Tick now) fits = reads_as (call.Tick now) refl fits
reads (call.Savepoint now) fits = reads_as (call.Savepoint now) refl fits
reads (call.Ack now id s fresh reused) fits = reads_as (call.Ack now id s fresh reused) refl fits
reads (call.Decline now id s) fits = reads_as (call.Decline now id s) refl fits
reads (call.Dispose id) fits = reads_as (call.Dispose id) refl fits
reads (call.Restore now t shape) fits = reads_as (call.Restore now t shape) refl fits
reads (call.Cancel now) fits = reads_as (call.Cancel now) refl fits
reads (call.Take most) fits = reads_as (call.Take most) refl fits
reads (call.Deleted file) fits = reads_as (call.Deleted file) refl fits
reads (call.Undeleted file) fits = reads_as (call.Undeleted file) refl fits
reads (call.Show id) fits = reads_as (call.Show id) refl fits
reads (call.Count file) fits = reads_as (call.Count file) refl fits
