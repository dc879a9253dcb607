-- What lines print, by parts of the text.
use Rattle.ckpt_script.proofs.Names.{◌≡◌, ℕ, ◌+◌, ◌-◌, ◌≤◌, List, [], ◌∷◌, ◌++◌, length, take, refl, sym, ap, ◌∙◌, arith, append_assoc, append-nil, take_all, take-append-add, reading, lines_of}
use Rattle.ckpt_script.proofs.Names.{MOST_LINES, outputs, output, scene_after, Scene, opening_scene, said}

pub outputs-append : (number : ℕ) (scene : Scene) (lines more : List (List ℕ))
    → outputs number scene (lines ++ more) ≡ outputs number scene lines ++ outputs (number + length lines) (scene_after number scene lines) more
outputs-append number scene [] more = let e : number + 0 ≡ number = omega arith in rw e refl
outputs-append number scene (line ∷ lines) more =
    let e : (number + 1) + length lines ≡ number + length (line ∷ lines) = omega arith in
    ap (λ (xs : List ℕ). (said number scene (reading line)).1 ++ xs)
    (outputs-append (number + 1) (said number scene (reading line)).0 lines more
    ∙ ap (λ (n : ℕ). outputs (number + 1) (said number scene (reading line)).0 lines ++ outputs n (scene_after (number + 1) (said number scene (reading line)).0 lines) more) e)
    ∙ sym (append_assoc (said number scene (reading line)).1 (outputs (number + 1) (said number scene (reading line)).0 lines) _)

pub scene_after-append : (number : ℕ) (scene : Scene) (lines more : List (List ℕ))
    → scene_after number scene (lines ++ more) ≡ scene_after (number + length lines) (scene_after number scene lines) more
scene_after-append number scene [] more = let e : number + 0 ≡ number = omega arith in rw e refl
scene_after-append number scene (line ∷ lines) more =
    let e : (number + 1) + length lines ≡ number + length (line ∷ lines) = omega arith in
    scene_after-append (number + 1) (said number scene (reading line)).0 lines more
    ∙ ap (λ (n : ℕ). scene_after n (scene_after (number + 1) (said number scene (reading line)).0 lines) more) e

-- one line more
pub outputs-more : (number : ℕ) (scene : Scene) (lines : List (List ℕ)) (line : List ℕ)
    → outputs number scene (lines ++ line ∷ []) ≡ outputs number scene lines ++ (said (number + length lines) (scene_after number scene lines) (reading line)).1
outputs-more number scene lines line = outputs-append number scene lines (line ∷ []) ∙ ap (λ (xs : List ℕ). outputs number scene lines ++ xs) (append-nil _)

-- few lines are all run
pub output-few : (text : List ℕ) → length (lines_of text) ≤ MOST_LINES → output text ≡ outputs 1 opening_scene (lines_of text)
output-few text few = ap (outputs 1 opening_scene) (take_all MOST_LINES (lines_of text) few)

-- what the first lines print is a prefix of the output
pub output-front : (text : List ℕ) (lines more : List (List ℕ)) → lines_of text ≡ lines ++ more → length lines ≤ MOST_LINES
    → output text ≡ outputs 1 opening_scene lines ++ outputs (1 + length lines) (scene_after 1 opening_scene lines) (take (MOST_LINES - length lines) more)
output-front text lines more e few =
    let n : MOST_LINES ≡ length lines + (MOST_LINES - length lines) = omega arith in
    ap (outputs 1 opening_scene)
    (ap (take MOST_LINES) e ∙ ap (λ (k : ℕ). take k (lines ++ more)) n ∙ take-append-add lines more (MOST_LINES - length lines))
    ∙ outputs-append 1 opening_scene lines (take (MOST_LINES - length lines) more)
