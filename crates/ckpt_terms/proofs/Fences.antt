-- What always holds, and what stays so, over every list of calls.
use Rattle.ckpt_terms.proofs.Imports.{◌≡◌, refl, ℕ, List, [], ◌∷◌, ◌++◌, arith, Opening, opening_is_sound, FencedCall, Fenced, fenced, FencedStepped, fenced_step, fenced_replay, CanFence}
use Rattle.ckpt_terms.proofs.Imports.{IsFencedCall, AreFencedCalls, IsFenced}
use Rattle.ckpt_terms.proofs.Stepping.{fenced_step_by, IsLater, later_itself, later_then, made_later, made_keeps}

pub step_fenced : (m : Fenced) (call : FencedCall) → IsFencedCall call → IsFenced m → IsFenced (fenced_step m call).0
step_fenced m call c i = fenced_step_by m call (λ (x : FencedStepped). IsFenced x.0) (λ _. i) (λ e. made_keeps m call c e i)

pub step_later : (m : Fenced) (call : FencedCall) → IsFenced m → IsLater m (fenced_step m call).0
step_later m call i = fenced_step_by m call (λ (x : FencedStepped). IsLater m x.0) (λ _. later_itself m) (λ e. made_later m call i e)

pub replay_fenced : (m : Fenced) (calls : List FencedCall) → AreFencedCalls calls → IsFenced m → IsFenced (fenced_replay m calls)
replay_fenced m [] a i = i
replay_fenced m (call ∷ calls) a i = replay_fenced (fenced_step m call).0 calls a.1 (step_fenced m call a.0 i)

pub replay_later : (m : Fenced) (calls : List FencedCall) → AreFencedCalls calls → IsFenced m → IsLater m (fenced_replay m calls)
replay_later m [] a i = later_itself m
replay_later m (call ∷ calls) a i = let n : Fenced = (fenced_step m call).0 in later_then m n (fenced_replay n calls) (step_later m call i) (replay_later n calls a.1 (step_fenced m call a.0 i))

pub opening_fenced : (o : Opening) (first : ℕ) → CanFence o first → IsFenced (fenced o first)
opening_fenced o first c = record {
  core = opening_is_sound o c.core;
  term_from = omega arith;
  term_to = omega arith;
  names_from = c.first_from;
  names_to = c.first_to;
  known = λ f h. absurd (cc);
  reserved = λ f h. absurd h;
  apart = λ f h. absurd h;
  ascending = tt;
  ended = λ e. refl;
}

-- two lists, one after the other

pub fenced_replay-append : (m : Fenced) (before after : List FencedCall) → fenced_replay m (before ++ after) ≡ fenced_replay (fenced_replay m before) after
fenced_replay-append m [] after = refl
fenced_replay-append m (call ∷ before) after = fenced_replay-append (fenced_step m call).0 before after

pub fenced_calls-split : (before after : List FencedCall) → AreFencedCalls (before ++ after) → AreFencedCalls before × AreFencedCalls after
fenced_calls-split [] after a = (tt, a)
fenced_calls-split (call ∷ before) after a = let rest : AreFencedCalls before × AreFencedCalls after = fenced_calls-split before after a.1 in ((a.0, rest.0), rest.1)

pub fenced_calls-join : (before after : List FencedCall) → AreFencedCalls before → AreFencedCalls after → AreFencedCalls (before ++ after)
fenced_calls-join [] after a b = b
fenced_calls-join (call ∷ before) after a b = (a.0, fenced_calls-join before after a.1 b)

-- the law
pub always : (o : Opening) (first : ℕ) (calls : List FencedCall) → CanFence o first → AreFencedCalls calls → IsFenced (fenced_replay (fenced o first) calls)
always o first calls c a = replay_fenced (fenced o first) calls a (opening_fenced o first c)
