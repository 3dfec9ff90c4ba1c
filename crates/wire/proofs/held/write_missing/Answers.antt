use Rattle.std.proofs.Common.{◌≡◌, ℕ, ◌+◌, ◌-◌, ◌<◌, not, List, [], ◌∷◌, ◌++◌, length, get_or, take, sym, refl, ap, ◌∙◌, arith, rules, of_calls}
use borrow.Author.Tests.{tests}
use Rattle.std.specs.List.{enumerate_from}
use Rattle.std.proofs.lemmas.Iterator.{YieldsList-from_range}
use Rattle.std.proofs.lemmas.Iterator.Consumers.{YieldsList-at, YieldsList-from_filter, YieldsList-from_enumerate, YieldsList-turn, YieldsList-end}
use Rattle.std.proofs.lemmas.List.{length_push, length-take-le, take_more, take_all}
use Rattle.std.proofs.lemmas.List.FromFn.{length-enumerate_from, get_or-enumerate_from}
use Rattle.wire.specs.Fields.{overwrite}
use Rattle.wire.specs.Flags.{held_by, missing_numbers}
use Rattle.wire.proofs.Overwrites.{overwrite_none, overwrite_one}
use Rattle.wire.proofs.held.write_missing.Goals as goal

pub loop-i-init : goal.loop-i-init
unfolding missing_numbers
loop-i-init c =
    let h = c.args.hack.now in
    let numbers = YieldsList-from_range {s = c.numbers.result} h.lsn (h.hsn + 1) (h.hsn + 1 - h.lsn) (c.numbers.ensures ∙ (λ i. record { start = c.requires.low i; end = c.requires.high i + 1 })) refl in
    let missing = YieldsList-from_filter _ (λ n. not (held_by h n)) (YieldsList-at c.filter-missing.ensures.source numbers) c.filter-missing.ensures.closure (λ x r q k. (λ i. record { 0 = k.called.met.1 i }, let e = k.called.met.0 in search (rules, tests))) in
    record {
      can = search of_calls;
      ends = search of_calls;
      road = YieldsList-at c.into_iter-i-iterator.ensures.into_iter_gives (YieldsList-from_enumerate (YieldsList-at c.enumerate-i-items.ensures.source missing) c.enumerate-i-items.ensures.count);
      so_far = overwrite_none c.args.numbers.now;
    }

-- this turn's number is the next that is missing
record Turn (i number so_far : ℕ) (missing : List ℕ) : Type 0 where
  here : i ≡ so_far
  within : so_far < length missing
  is : number ≡ get_or missing so_far number

turn_of : (ms : List ℕ) (k i n : ℕ) → (k < length (enumerate_from 0 ms)) × (◌≡◌ {A = ℕ × ℕ} (i, n) (get_or (enumerate_from 0 ms) k (i, n))) → Turn i n k ms
turn_of ms k i n t =
    let long = length-enumerate_from 0 ms in
    let within : k < length ms = omega (arith, t.0) in
    let both = t.1 ∙ get_or-enumerate_from 0 ms k (i, n) within in
    record { here = ap (λ p. p.0) both ∙ omega arith; within = within; is = ap (λ p. p.1) both }

turn : (c : goal.In-Some) → Turn c.in-Some.i c.in-Some.number (length c.loop-i.yielded) (missing_numbers c.args.hack.now)
turn c = turn_of _ _ _ _ (YieldsList-turn c.loop-i.invariant.road c.loop-i.yielded _ c.loop-i.yielded_by _ _ (c.in-Some.i, c.in-Some.number) c.in-Some.is c.next.ensures.steps)

pub offset_bounds-numbers-i : goal.offset_bounds-numbers-i
offset_bounds-numbers-i c = let t = turn c in record { fits = omega (arith, t.here, t.within, c.requires.room) }

pub bounds-numbers-i : goal.bounds-numbers-i
bounds-numbers-i c = let t = turn c in omega (arith, t.here, t.within, c.requires.room, c.loop-i.auto.numbers)

pub loop-i-preserved : goal.loop-i-preserved
loop-i-preserved c =
    let t = turn c in
    let ms = missing_numbers c.args.hack.now in
    let out = c.args.numbers.now in
    let k = length c.loop-i.yielded in
    let number = c.in-Some.number in
    let front : length (take k ms) ≡ k = length-take-le k ms (omega (arith, t.within)) in
    record {
      can = search of_calls;
      ends = search of_calls;
      road = c.loop-i.invariant.road;
      so_far = overwrite_one (take k ms) out c.loop-i.numbers number c.in-Some.i c.loop-i.invariant.so_far (t.here ∙ sym front) (omega (arith, t.within, front, c.requires.room))
          ∙ ap (λ l. overwrite 0 l out) (ap (λ m. take k ms ++ m ∷ []) t.is ∙ sym (take_more ms k number t.within) ∙ ap (λ j. take j ms) (sym (length_push c.loop-i.yielded (c.in-Some.i, number))));
    }

pub returns : goal.returns
returns c =
    let ms = missing_numbers c.args.hack.now in
    let t = YieldsList-end c.loop-i.invariant.road c.loop-i.yielded _ c.loop-i.yielded_by _ _ c.in-None.is c.next.ensures.steps in
    c.loop-i.invariant.so_far ∙ ap (λ l. overwrite 0 l c.args.numbers.now) (ap (λ j. take j ms) (t.1 ∙ length-enumerate_from 0 ms) ∙ take_all _ ms (omega arith))
