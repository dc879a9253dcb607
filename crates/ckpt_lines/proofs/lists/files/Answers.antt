-- Answers the goals of `files`.
use Rattle.ckpt_lines.proofs.{◌≡◌, ℕ, List, [], ◌∷◌, ◌++◌, Option, Some, Ok, sym, ap, ◌∙◌, err_from_is_err_and, append-nil, filter_map-append, filter_map, FileWord, Fresh, Reused, each}
use Rattle.ckpt_lines.proofs.{file_place, file_word, fresh_file, reused_file, goes_on, fails, is_done, with_front-nil, files_fail, files_are, next_file, no_file, bad_file, fewer}
use Rattle.ckpt_lines.proofs.lists.files.Goals as goal

-- the word that was read, by what it was found to be
read : (words rest : List (List ℕ)) (got : Option FileWord) (file word : FileWord) → file_place words ≡ Ok (got, rest) → got ≡ Some file → file ≡ word
    → (w : List ℕ) × (words ≡ w ∷ rest) × (file_word w ≡ Ok word)
read words rest got file word is some same = next_file words word rest (is ∙ ap (λ r. Ok (r, rest)) (some ∙ ap Some same))

pub files-init : goal.files-init
files-init c = record { done = []; so_far = with_front-nil (each file_word c.args.words.now); fresh = c.in_ok-fresh.ensures.items; reused = c.in_ok-reused.ensures.items }

pub returns-in_err-file : goal.returns-in_err-file
returns-in_err-file c =
    let p = err_from_is_err_and c.from_residual-in_err-file.result c.from_residual-in_err-file.ensures.1 in
    let bad = bad_file c.files.words c.in_err-file.field-0.0 c.in_err-file.ensures.0 in
    rw (p.1, p.2) (λ _. files_fail c.args.words.now c.in_err-file.field-0.0 (fails file_word c.files.invariant.done _ bad.0 bad.1 _ _ bad.2 bad.3 c.files.invariant.so_far))

pub files-smaller-in-Continue-branch-5 : goal.files-smaller-in-Continue-branch-5
files-smaller-in-Continue-branch-5 c =
    let next = read _ _ _ _ (Fresh c.in-Fresh.file) c.in_ok-file.ensures c.in-Some.is c.in-Fresh.is in fewer _ next.0 _ next.1

pub files-preserved-in-Continue-branch-5 : goal.files-preserved-in-Continue-branch-5
files-preserved-in-Continue-branch-5 c =
    let so_far = c.files.invariant in
    let next = read _ _ _ _ (Fresh c.in-Fresh.file) c.in_ok-file.ensures c.in-Some.is c.in-Fresh.is in
    record {
      done = so_far.done ++ Fresh c.in-Fresh.file ∷ [];
      so_far = goes_on file_word so_far.done _ next.0 _ (Fresh c.in-Fresh.file) _ next.1 next.2 so_far.so_far;
      fresh = c.in_ok-push-in-Fresh.ensures.items ∙ ap (λ files. files ++ c.in-Fresh.file ∷ []) so_far.fresh ∙ sym (filter_map-append fresh_file so_far.done (Fresh c.in-Fresh.file ∷ []));
      reused = so_far.reused ∙ sym (filter_map-append reused_file so_far.done (Fresh c.in-Fresh.file ∷ []) ∙ append-nil (filter_map reused_file so_far.done));
    }

pub files-smaller : goal.files-smaller
files-smaller c =
    let next = read _ _ _ _ (Reused c.in-Reused.file) c.in_ok-file.ensures c.in-Some.is c.in-Reused.is in fewer _ next.0 _ next.1

pub files-preserved : goal.files-preserved
files-preserved c =
    let so_far = c.files.invariant in
    let next = read _ _ _ _ (Reused c.in-Reused.file) c.in_ok-file.ensures c.in-Some.is c.in-Reused.is in
    record {
      done = so_far.done ++ Reused c.in-Reused.file ∷ [];
      so_far = goes_on file_word so_far.done _ next.0 _ (Reused c.in-Reused.file) _ next.1 next.2 so_far.so_far;
      fresh = so_far.fresh ∙ sym (filter_map-append fresh_file so_far.done (Reused c.in-Reused.file ∷ []) ∙ append-nil (filter_map fresh_file so_far.done));
      reused = c.in_ok-push-in-Reused.ensures.items ∙ ap (λ files. files ++ c.in-Reused.file ∷ []) so_far.reused ∙ sym (filter_map-append reused_file so_far.done (Reused c.in-Reused.file ∷ []));
    }

pub returns : goal.returns
returns c =
    let none = no_file c.files.words c.file.new.self (c.in_ok-file.ensures ∙ ap (λ r. Ok (r, c.file.new.self)) c.in_default.is) in
    rw (c.of.ensures, c.of-2.ensures, c.files.invariant.fresh, c.files.invariant.reused)
    (files_are c.args.words.now c.files.invariant.done (is_done file_word c.files.invariant.done _ _ none c.files.invariant.so_far))
