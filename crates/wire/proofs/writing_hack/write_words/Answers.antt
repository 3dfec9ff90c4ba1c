use Rattle.std.proofs.Common.{◌≡◌, ℕ, ◌*◌, ◌<◌, [], ◌++◌, length, get_or, take, sym, ap, ◌∙◌, subst, arith}
use Rattle.std.specs.List.{flat_map}
use Rattle.std.proofs.lemmas.List.{flat_map_more, take_more, length-take-le, get_or-take}
use Rattle.wire.specs.Fields.{field_bytes, overwrite}
use Rattle.wire.specs.Flags.{word_count, canonical_words, canonical_word}
use Rattle.wire.proofs.Overwrites.{overwrite_none, overwrite_next}
use Rattle.wire.proofs.Lengths.{length_joined, length_canonical_words, canonical_words_at}
use Rattle.wire.proofs.writing_hack.write_words.Goals as goal

pub loop-i-init : goal.loop-i-init
loop-i-init c = overwrite_none c.args.out.now

pub loop-i-preserved : goal.loop-i-preserved
unfolding field_bytes
loop-i-preserved c =
    let p = c.args.span in
    let i = c.loop-i.i in
    let out = c.args.out.now in
    let f = λ (k : ℕ). get_or c.args.flags k 0 in
    let ws = canonical_words p.lsn p.hsn f in
    let nine = length_canonical_words p.lsn p.hsn f in
    let count = c.word_count-count.result in
    let all : length (take count c.args.flags) ≡ count = length-take-le count c.args.flags (omega (arith, c.word_count-count.ensures.bound)) in
    let within : i < count = omega arith in
    let is = c.canonical_word.ensures ∙ ap (canonical_word p.lsn p.hsn i) (get_or-take count c.args.flags i 0 within) in
    let long : length (flat_map field_bytes (take i ws)) ≡ 4 * i = length_joined (take i ws) ∙ ap (λ n. 4 * n) (length-take-le i ws (omega (arith, c.word_count-count.ensures.bound))) in
    overwrite_next 0 (4 * i) (flat_map field_bytes (take i ws)) (field_bytes (canonical_word p.lsn p.hsn i (f i))) out c.loop-i.invariant
    (c.put.ensures ∙ ap (λ l. overwrite (4 * i) l c.loop-i.out) (c.to_be_bytes.ensures ∙ ap field_bytes is)) (omega arith) (omega (arith, c.word_count-count.ensures.is))
    ∙ ap (λ l. overwrite 0 l out)
    (ap (λ x. flat_map field_bytes (take i ws) ++ field_bytes x) (sym (canonical_words_at p.lsn p.hsn f i (omega (arith, c.word_count-count.ensures.bound))))
    ∙ flat_map_more field_bytes [] (take i ws) (get_or ws i 0) ∙ ap (flat_map field_bytes) (sym (take_more ws i 0 (omega (arith, c.word_count-count.ensures.bound)))))

pub returns : goal.returns
returns c =
    let p = c.args.span in
    let count = c.word_count-count.result in
    let most : length (take count c.args.flags) ≡ count = length-take-le count c.args.flags (omega (arith, c.word_count-count.ensures.bound)) in
    let all : c.loop-i.i ≡ word_count p.lsn p.hsn = omega (arith, c.word_count-count.ensures.is) in
    subst (λ n. c.loop-i.out ≡ overwrite 0 (flat_map field_bytes (take n (canonical_words p.lsn p.hsn (λ k. get_or c.args.flags k 0)))) c.args.out.now) all c.loop-i.invariant
