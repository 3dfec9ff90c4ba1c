-- How long the parts of a packet are. Assumes nothing.
use Rattle.std.proofs.Common.{◌≡◌, ℕ, ◌+◌, ◌-◌, ◌*◌, ◌/◌, ◌%◌, ◌<◌, ◌≤◌, true, ltb, List, [], ◌∷◌, length, get_or, refl, ap, ◌∙◌, arith}
use Rattle.std.specs.List.{flat_map}
use Rattle.std.proofs.lemmas.List.{length-take-le}
use Rattle.std.proofs.lemmas.List.FromFn.{get_or-map-range_with_len}
use Rattle.wire.specs.Fields.{short_bytes, field_bytes}
use Rattle.wire.specs.Flags.{flag_at, flag_of, word_of, word_count, canonical_word, canonical_words}
use Rattle.wire.proofs.Words.{canonical_flags}
use Rattle.wire.specs.Ranges.{hack_fields_in_range, body_in_range}
use Rattle.wire.specs.Encoding.{hack_words, body_bytes, body_length, header_bytes, encode}
use Rattle.wire.specs.declared.packet.Hack.{Hack}
use Rattle.wire.specs.declared.packet.Message.{Message}
use Rattle.wire.specs.declared.packet.Body.{Body}
use Rattle.wire.specs.declared.packet.Body.TheVariants.{Data, Retransmission, Hack as HackOf, JoinStream, JoinAck, JoinConfirm, LeaveStream, Heartbeat, NullData, Eject, Eos, HeartbeatResponse, LeaveConfirm}
use Rattle.std.proofs.lemmas.Bool.{and_parts, cond_both}
use Rattle.std.proofs.lemmas.Bool.Decides.{nat_tests}

pub length_joined : (ws : List ℕ) → length (flat_map field_bytes ws) ≡ 4 * length ws
unfolding field_bytes
length_joined [] = refl
length_joined (w ∷ ws) = let h = length_joined ws in omega arith

pub length_canonical_words : (lsn hsn : ℕ) (f : ℕ → ℕ) → length (canonical_words lsn hsn f) ≡ 9
unfolding canonical_words
length_canonical_words lsn hsn f = refl

pub length_hack_words : (h : Hack) → word_count h.lsn h.hsn ≤ 9 → length (hack_words h) ≡ word_count h.lsn h.hsn
length_hack_words h k = length-take-le _ _ (omega (arith, length_canonical_words h.lsn h.hsn (λ i. get_or h.flags i 0)))

pub canonical_words_at : (lsn hsn : ℕ) (f : ℕ → ℕ) (i : ℕ) → i < 9 → get_or (canonical_words lsn hsn f) i 0 ≡ canonical_word lsn hsn i (f i)
unfolding canonical_words
canonical_words_at lsn hsn f i h = get_or-map-range_with_len (λ i. canonical_word lsn hsn i (f i)) 0 9 i i 0 h (omega arith)

pub words_bound : (term serial lsn hsn : ℕ) → hack_fields_in_range term serial lsn hsn ≡ true → word_count lsn hsn ≤ 9
unfolding word_count
words_bound term serial lsn hsn v = cond_both (ltb hsn lsn) 0 ((lsn % 32 + (hsn - lsn)) / 32 + 1) (λ n. n ≤ 9) (λ _. omega arith)
    (λ _. let h : hsn ≤ lsn + 255 = grind (arith, nat_tests) in omega arith)

pub length_body : (x : Body (List ℕ)) → body_in_range x ≡ true → length (body_bytes x) ≡ body_length x
unfolding short_bytes field_bytes
length_body (Data n p) v = omega arith
length_body (Retransmission n p) v = omega arith
length_body (HackOf h) v =
    let f = (and_parts (hack_fields_in_range h.term h.serial h.lsn h.hsn) _ v).0 in
    let l = length_hack_words h (words_bound h.term h.serial h.lsn h.hsn f) in
    omega (arith, length_joined (hack_words h))
length_body (JoinStream t) v = refl
length_body (JoinAck t) v = refl
length_body (JoinConfirm t s l) v = refl
length_body (LeaveStream t) v = refl
length_body (Heartbeat k) v = refl
length_body (NullData n) v = refl
length_body (Eject t) v = refl
length_body (Eos n) v = refl
length_body (HeartbeatResponse t k) v = refl
length_body (LeaveConfirm t) v = refl

pub length_encode : (p : Message (List ℕ)) → body_in_range p.body ≡ true → length (encode p) ≡ 16 + body_length p.body
unfolding short_bytes
length_encode p v = let h = length_body p.body v in omega arith

pub length_header : (p : Message (List ℕ)) → length (header_bytes p) ≡ 16
unfolding short_bytes
length_header p = refl

-- no flag of LSN to HSN is changed
pub flags_kept : (lsn hsn : ℕ) (f : ℕ → ℕ) (n : ℕ) → hsn ≤ lsn + 255 → lsn ≤ n → n ≤ hsn → flag_of lsn (canonical_words lsn hsn f) n ≡ flag_at (f (word_of lsn n)) (n % 32)
unfolding flag_of
flags_kept lsn hsn f n bound low leading_ones =
    let i = word_of lsn n in
    let nine : i < 9 = omega arith in
    ap (λ w. flag_at w (n % 32)) (canonical_words_at lsn hsn f i nine) ∙ (canonical_flags lsn hsn i (f i)).inside (n % 32) (omega arith) (omega arith) (omega arith) (omega arith)
