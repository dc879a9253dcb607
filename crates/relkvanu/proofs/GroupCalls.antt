-- What a call through a group is among the operations of a program: a question, a look, or nothing.
use Rattle.relkvanu.proofs.Imports.{◌≡◌, ◌≢◌, ℕ, Bool, true, false, ◌||◌, ltb, eqb, List, length, set, refl, sym, ap, ◌∙◌, subst, ◌==◌, if◌then◌else◌, Some, Result, Ok, Err, cond_both, eq-eqb}
use Rattle.relkvanu.proofs.Imports.{eqb-true, true≢false, Committed, Looked, Made, lives, LONGEST_LINE, Event, IsEvent, event_step, core_in, machine_of, names_in, Machine, bad_line, IsHandled}
use Rattle.relkvanu.proofs.Imports.{machine_in, Asks, AsksByLine, Does, Has, IsLeftBy, Looks, LooksAtCall, Program, Syncs, IsRoom, all_told, asked_event, group_with, held_with, one_more}
use Rattle.relkvanu.proofs.Imports.{receipt_of, tells, why_full, asked_step, said_step, to_make, bad_argument, done, no_memory, too_short_for, SaysBack, asked_text, Answer, Asked, Group}
use Rattle.relkvanu.proofs.Imports.{Handle}
use Rattle.relkvanu.proofs.AsEvents.{asked_is}
use Rattle.ckpt_logged.proofs.Shows.{whole}

-- what is made is what was given, or nothing is
abbrev IsMade : Result Asked ℕ → Result Asked Answer → Type 0
IsMade given (Ok asked) = given ≡ Ok asked
IsMade given (Err answer) = answer.code ≢ 0

pub made_is : (given : Result Asked ℕ) (places : ℕ) → IsMade given (to_make given places)
unfolding to_make
made_is (Ok asked) places =
    let text : List ℕ = asked_text asked in
    cond_both (ltb LONGEST_LINE (length text)) (Err (bad_line 1)) (if ltb places (length text) then Err (too_short_for 0 (length text)) else Ok asked) (λ (r : Result Asked Answer). IsMade (Ok asked) r)
    (λ _ code. absurd cc)
    (λ _. cond_both (ltb places (length text)) (Err (too_short_for 0 (length text))) (Ok asked) (λ (r : Result Asked Answer). IsMade (Ok asked) r) (λ _ code. absurd cc) (λ _. refl))
made_is (Err what) places = λ code. absurd cc

-- a receipt with which a line is to be appended is that of a call that was made
was_made : (g : Group) (a : Answer) → (receipt_of g a).code ≡ 0 → (receipt_of g a).what ≡ 62 → a.code ≡ 0
was_made g a =
    cond_both (eqb a.code 0) (done 62 g.given 0) (if tells a then done 63 g.given 0 else a) (λ (x : Answer). x.code ≡ 0 → x.what ≡ 62 → a.code ≡ 0)
    (λ is _ _. eqb-true a.code 0 is)
    (λ _. cond_both (tells a) (done 63 g.given 0) a (λ (x : Answer). x.code ≡ 0 → x.what ≡ 62 → a.code ≡ 0) (λ _ _ what. absurd (true≢false (sym (ap (λ (n : ℕ). n == 62) what)))) (λ _ code _. code))

-- any other receipt is that of a call that was refused
record WasRefused (a : Answer) : Type 0 where
  unmade : a.code ≢ 0
  tells : tells a ≡ true
  kept : a.code ≢ no_memory

was_refused : (g : Group) (a : Answer) → (receipt_of g a).code ≡ 0 → (receipt_of g a).what ≢ 62 → WasRefused a
was_refused g a =
    cond_both (eqb a.code 0) (done 62 g.given 0) (if tells a then done 63 g.given 0 else a) (λ (x : Answer). x.code ≡ 0 → x.what ≢ 62 → WasRefused a)
    (λ _ _ other. absurd (other refl))
    (λ unmade. cond_both (tells a) (done 63 g.given 0) a (λ (x : Answer). x.code ≡ 0 → x.what ≢ 62 → WasRefused a)
    (λ is_told _ _. record {
      unmade = λ is. true≢false (sym (eq-eqb a.code 0 is) ∙ unmade);
      tells = is_told;
      kept = λ lack. true≢false (sym is_told ∙ ap (λ (n : ℕ). (n == 0) || ((n == 1) || (n == 7))) lack);
    })
    (λ _ code _. absurd (true≢false (sym (eq-eqb a.code 0 code) ∙ unmade))))

-- any other answer was told at once, and is none that tells of the state
record WasTold (a : Answer) : Type 0 where
  unmade : a.code ≢ 0
  no_tale : tells a ≡ false

was_told : (g : Group) (a : Answer) → (receipt_of g a).code ≢ 0 → WasTold a
was_told g a =
    cond_both (eqb a.code 0) (done 62 g.given 0) (if tells a then done 63 g.given 0 else a) (λ (x : Answer). x.code ≢ 0 → WasTold a)
    (λ _ unmade. absurd (unmade refl))
    (λ is_not. cond_both (tells a) (done 63 g.given 0) a (λ (x : Answer). x.code ≢ 0 → WasTold a)
    (λ _ unmade. absurd (unmade refl))
    (λ no_tale unmade. record { unmade = unmade; no_tale = no_tale }))

-- the coordinator of the program is that of its handle
the_machine : (p : Program) (handle : Handle) (group : Group) (held : List Answer) → Has p handle group held → machine_in handle (core_in p.life.now) ≡ p.life.now
the_machine p handle group held has = ap (machine_of (core_in p.life.now)) has.names ∙ sym (whole p.life.now)

there_is_room : (p : Program) (handle : Handle) (group : Group) (held : List Answer) → Has p handle group held → IsRoom group (length held) → IsRoom p.group (length p.held)
there_is_room p handle group held has room =
    subst (λ (g : Group). IsRoom g (length p.held)) (sym has.counts) (subst (λ (xs : List Answer). IsRoom group (length xs)) (sym has.answers) room)

-- What is known of a call, of what it makes of what was given, whose answer `a` is held, or told at once as `result`.
pub record IsCalled (old new : Handle) (g h : Group) (xs ys : List Answer) (given : Result Asked ℕ) (made : Result Asked Answer) (places : ℕ) (line : List ℕ) (a result : Answer) : Type 0 where
  pub room : IsRoom g (length xs)
  pub handled : IsHandled (λ k. said_step k places made) old new a
  pub unchanged : a.code ≢ 0 → (new.value ≡ old.value) × (new.names ≡ old.names)
  pub said : SaysBack given line a
  pub group : h ≡ group_with g a
  pub held : ys ≡ held_with g xs a
  pub told : result ≡ receipt_of g a
  pub well : (asked : Asked) → given ≡ Ok asked → IsEvent (asked_event asked)
  pub is : IsMade given made

handled_as : (p : Program) (old new : Handle) (g : Group) (xs : List Answer) (made : Result Asked Answer) (places : ℕ) (a : Answer)
    → Has p old g xs → IsHandled (λ k. said_step k places made) old new a → a.code ≢ no_memory
    → (new.value ≡ Some (core_in (said_step p.life.now places made).0)) × (new.names ≡ names_in (said_step p.life.now places made).0)
    × (a ≡ (said_step p.life.now places made).1)
handled_as p old new g xs made places a has handled code =
    let is = handled (core_in p.life.now) has.state code in
    let same = the_machine p old g xs has in (
      is.0 ∙ ap (λ (k : Machine). Some (core_in (said_step k places made).0)) same,
      is.1 ∙ ap (λ (k : Machine). names_in (said_step k places made).0) same,
      is.2 ∙ ap (λ (k : Machine). (said_step k places made).1) same,
    )

-- one answer more is held, in the program too
count_held : (p : Program) (g h : Group) (xs : List Answer) (old : Handle) (a : Answer) → Has p old g xs → tells a ≡ true → h ≡ group_with g a → one_more p.group ≡ h
count_held p g h xs old a has is_told group = ap one_more has.counts ∙ sym (group ∙ ap (λ (b : Bool). if b then one_more g else g) is_told)

place_held : (p : Program) (g : Group) (xs ys : List Answer) (old : Handle) (a its : Answer) → Has p old g xs → tells a ≡ true → ys ≡ held_with g xs a → a ≡ its
    → set p.held p.group.waiting its ≡ ys
place_held p g xs ys old a its has is_told held same =
    ap (set p.held p.group.waiting) (sym same) ∙ ap (λ (k : Group). set p.held k.waiting a) has.counts ∙ ap (λ (zs : List Answer). set zs g.waiting a) has.answers
    ∙ sym (held ∙ ap (λ (b : Bool). if b then set xs g.waiting a else xs) is_told)

tells_made : (a : Answer) → a.code ≡ 0 → tells a ≡ true
tells_made a code = ap (λ (n : ℕ). (n == 0) || ((n == 1) || (n == 7))) code

no_lack : (a : Answer) → a.code ≡ 0 → a.code ≢ no_memory
no_lack a code lack = absurd cc

-- the answer says that a line is to be appended
pub asks : (p : Program) (old new : Handle) (g h : Group) (xs ys : List Answer) (given : Result Asked ℕ) (made : Result Asked Answer) (places : ℕ) (line : List ℕ) (a result : Answer)
    → Has p old g xs → IsCalled old new g h xs ys given made places line a result → result.code ≡ 0 → result.what ≡ 62
    → AsksByLine p made places line new h ys
asks p old new g h xs ys given (Err answer) places line a result has called code what =
    let is_made : a.code ≡ 0 = was_made g a (ap (λ (x : Answer). x.code) (sym called.told) ∙ code) (ap (λ (x : Answer). x.what) (sym called.told) ∙ what) in
    let is = handled_as p old new g xs (Err answer) places a has called.handled (no_lack a is_made) in
    absurd (called.is (ap (λ (x : Answer). x.code) (sym is.2) ∙ is_made))
asks p old new g h xs ys given (Ok asked) places line a result has called code what =
    let is_made : a.code ≡ 0 = was_made g a (ap (λ (x : Answer). x.code) (sym called.told) ∙ code) (ap (λ (x : Answer). x.what) (sym called.told) ∙ what) in
    let is = handled_as p old new g xs (Ok asked) places a has called.handled (no_lack a is_made) in
    let event : Event = asked_event asked in
    let its : Answer = (asked_step p.life.now places asked).1 in
    let leaves : (asked_step p.life.now places asked).0 ≡ event_step p.life.now event = asked_is p.life.now places asked (ap (λ (x : Answer). x.code) (sym is.2) ∙ is_made) in
    let q : Program = record { life = lives p.life (Made event); group = one_more p.group; held = set p.held p.group.waiting its } in
    let after : Has q new h ys = record {
      state = is.0 ∙ ap (λ (k : Machine). Some (core_in k)) leaves;
      names = is.1 ∙ ap names_in leaves;
      counts = count_held p g h xs old a has (tells_made a is_made) called.group;
      answers = place_held p g xs ys old a its has (tells_made a is_made) called.held is.2;
    } in
    (asked, refl, called.said asked called.is is_made, called.well asked called.is, (q, (there_is_room p old g xs has called.room, refl), after))

-- the answer says that a refusal is held back
pub looks : (p : Program) (old new : Handle) (g h : Group) (xs ys : List Answer) (given : Result Asked ℕ) (made : Result Asked Answer) (places : ℕ) (line : List ℕ) (a result : Answer)
    → Has p old g xs → IsCalled old new g h xs ys given made places line a result → result.code ≡ 0 → result.what ≢ 62
    → LooksAtCall p made places new h ys
looks p old new g h xs ys given made places line a result has called code what =
    let refused : WasRefused a =
    was_refused g a (ap (λ (x : Answer). x.code) (sym called.told) ∙ code) (λ is. what (ap (λ (x : Answer). x.what) called.told ∙ is)) in
    let is = handled_as p old new g xs made places a has called.handled refused.kept in
    let its : Answer = (said_step p.life.now places made).1 in
    let same = called.unchanged refused.unmade in
    let q : Program = record { life = lives p.life Looked; group = one_more p.group; held = set p.held p.group.waiting its } in
    let after : Has q new h ys = record {
      state = same.0 ∙ has.state;
      names = same.1 ∙ has.names;
      counts = count_held p g h xs old a has refused.tells called.group;
      answers = place_held p g xs ys old a its has refused.tells called.held is.2;
    } in
    (q, (there_is_room p old g xs has called.room, refl), after)

-- any other answer is told at once, and nothing has changed
pub stays : (p : Program) (old new : Handle) (g h : Group) (xs ys : List Answer) (given : Result Asked ℕ) (made : Result Asked Answer) (places : ℕ) (line : List ℕ) (a result : Answer)
    → Has p old g xs → IsCalled old new g h xs ys given made places line a result → result.code ≢ 0 → Has p new h ys
stays p old new g h xs ys given made places line a result has called code =
    let told : WasTold a = was_told g a (λ is. code (ap (λ (x : Answer). x.code) called.told ∙ is)) in
    let same = called.unchanged told.unmade in
    record {
      state = same.0 ∙ has.state;
      names = same.1 ∙ has.names;
      counts = has.counts ∙ sym (called.group ∙ ap (λ (b : Bool). if b then one_more g else g) told.no_tale);
      answers = has.answers ∙ sym (called.held ∙ ap (λ (b : Bool). if b then set xs g.waiting a else xs) told.no_tale);
    }

-- there is no room
pub full_is_told : (g : Group) → (why_full g).code ≢ 0
full_is_told g = cond_both g.has_failed (bad_argument 9) (bad_argument 10) (λ (x : Answer). x.code ≢ 0) (λ _ is. absurd cc) (λ _ is. absurd cc)

-- the answer of another function is held
pub one_look : (p : Program) (handle : Handle) (g h : Group) (xs ys : List Answer) (a : Answer) → Has p handle g xs → IsRoom g (length xs) → h ≡ one_more g → ys ≡ set xs g.waiting a
    → Does p (Looks a) handle h ys
one_look p handle g h xs ys a has room group held =
    let q : Program = record { life = lives p.life Looked; group = one_more p.group; held = set p.held p.group.waiting a } in
    let after : Has q handle h ys = record {
      state = has.state;
      names = has.names;
      counts = ap one_more has.counts ∙ sym group;
      answers = ap (λ (k : Group). set p.held k.waiting a) has.counts ∙ ap (λ (zs : List Answer). set zs g.waiting a) has.answers ∙ sym held;
    } in
    (q, (there_is_room p handle g xs has room, refl), after)

-- or that of a call that was made without a group
pub one_made : (p : Program) (old handle : Handle) (g h : Group) (xs ys : List Answer) (event : Event) (a : Answer) → Has p old g xs → IsLeftBy event p handle → IsRoom g (length xs)
    → h ≡ one_more g → ys ≡ set xs g.waiting a → Does p (Asks event a) handle h ys
one_made p old handle g h xs ys event a has left room group held =
    let q : Program = record { life = lives p.life (Made event); group = one_more p.group; held = set p.held p.group.waiting a } in
    let after : Has q handle h ys = record {
      state = left.0;
      names = left.1;
      counts = ap one_more has.counts ∙ sym group;
      answers = ap (λ (k : Group). set p.held k.waiting a) has.counts ∙ ap (λ (zs : List Answer). set zs g.waiting a) has.answers ∙ sym held;
    } in
    (q, (there_is_room p old g xs has room, refl), after)

-- A call that left the handle as it was counts as a look.
pub idles : (p : Program) (old new : Handle) (g h : Group) (xs ys : List Answer) (a its result : Answer) → Has p old g xs → IsRoom g (length xs) → new.value ≡ old.value → new.names ≡ old.names
    → h ≡ group_with g a → ys ≡ held_with g xs a → result ≡ receipt_of g a → its ≡ a → result.code ≡ 0 → Does p (Looks its) new h ys
idles p old new g h xs ys a its result has room value names group held told same code =
    let is_told : tells a ≡ true = was_held g a (ap (λ (x : Answer). x.code) (sym told) ∙ code) in
    let still : Has p new g xs = record { state = value ∙ has.state; names = names ∙ has.names; counts = has.counts; answers = has.answers } in
    one_look p new g h xs ys its still room (group ∙ ap (λ (b : Bool). if b then one_more g else g) is_told)
    (held ∙ ap (λ (b : Bool). if b then set xs g.waiting a else xs) is_told ∙ ap (set xs g.waiting) (sym same))
  where
    was_held : (g : Group) (a : Answer) → (receipt_of g a).code ≡ 0 → tells a ≡ true
    was_held g a =
        cond_both (eqb a.code 0) (done 62 g.given 0) (if tells a then done 63 g.given 0 else a) (λ (x : Answer). x.code ≡ 0 → tells a ≡ true)
        (λ is _. tells_made a (eqb-true a.code 0 is))
        (λ unmade. cond_both (tells a) (done 63 g.given 0) a (λ (x : Answer). x.code ≡ 0 → tells a ≡ true) (λ is_told _. is_told)
        (λ _ is. absurd (true≢false (sym (eq-eqb a.code 0 is) ∙ unmade))))

-- what waits is synced
pub one_sync : (p : Program) (handle : Handle) (g : Group) (xs : List Answer) → Has p handle g xs → g.has_failed ≡ false → Does p Syncs handle (all_told g) xs
one_sync p handle g xs has sound =
    let q : Program = record { life = lives p.life Committed; group = all_told p.group; held = p.held } in
    let after : Has q handle (all_told g) xs = record { state = has.state; names = has.names; counts = ap all_told has.counts; answers = has.answers } in
    (q, (ap (λ (k : Group). k.has_failed) has.counts ∙ sound, refl), after)
