use Rattle.std.proofs.Common.{◌-◌, ◌++◌, refl, ap, ◌∙◌, arith, rules}
use Rattle.std.specs.List.{flat_map}
use Rattle.wire.specs.Fields.{short_bytes, field_bytes, overwrite}
use Rattle.wire.specs.Flags.{word_count}
use Rattle.wire.specs.Encoding.{hack_words}
use Rattle.wire.proofs.Overwrites.{overwrite_next, overwrite_from}
use Rattle.wire.proofs.writing_hack.write_hack.Goals as goal

pub returns : goal.returns
unfolding short_bytes field_bytes
returns c =
    let h = c.args.hack.now in
    let out = c.args.out.now in
    let t = field_bytes h.term in
    let s = field_bytes h.serial in
    let l = field_bytes h.lsn in
    let u = field_bytes h.hsn in
    let v = field_bytes (h.lsn - 1) in
    let n = short_bytes (word_count h.lsn h.hsn) in
    let e₂ = overwrite_next 16 20 t s out (rw c.to_be_bytes.ensures at c.put.ensures) (rw c.to_be_bytes-2.ensures at c.put-2.ensures) refl (omega arith) in
    let e₃ = overwrite_next 16 24 (t ++ s) l out e₂ (rw c.to_be_bytes-3.ensures at c.put-3.ensures) refl (omega arith) in
    let e₄ = overwrite_next 16 28 (t ++ (s ++ l)) u out e₃ (rw c.to_be_bytes-4.ensures at c.put-4.ensures) refl (omega arith) in
    let e₅ = overwrite_next 16 32 (t ++ (s ++ (l ++ u))) v out e₄ (rw c.to_be_bytes-5.ensures at c.put-5.ensures) refl (omega arith) in
    let e₆ = overwrite_next 16 36 (t ++ (s ++ (l ++ (u ++ v)))) n out e₅ ((rw c.to_be_bytes-6.ensures at c.put-6.ensures) ∙ ap (λ x. overwrite 36 (short_bytes x) c.put-5.new.out) c.word_count.ensures.is) refl (omega arith) in
    record { after = overwrite_next 16 38 (t ++ (s ++ (l ++ (u ++ (v ++ n))))) (flat_map field_bytes (hack_words h)) out e₆ (overwrite_from 38 _ _ _ c.write_words.ensures) refl (omega arith); typed = search rules }
