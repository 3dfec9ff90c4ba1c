-- What is read writes back, but for the flags that a reader ignores. Assumes nothing.
use Rattle.std.proofs.Common.{◌≡◌, ℕ, ◌+◌, ◌-◌, ◌*◌, ◌/◌, ◌%◌, ◌<◌, ◌≤◌, Bool, true, false, cond, not, ◌&&◌, ◌||◌, eqb, ltb, List, [], ◌∷◌, ◌++◌, length, get_or, take, drop, Ok, Err, sym, refl, ap, ◌∙◌, subst, ⊎_elim, append_assoc, append-nil, arith, length-append, length-drop}
use Rattle.std.specs.List.{flat_map}
use Rattle.std.proofs.lemmas.List.FromFn.{fill_by_all}
use Rattle.std.proofs.lemmas.List.{drop_more, drop_all, take-append-drop, take_at, length-take-le, get_or-take}
use Rattle.std.proofs.lemmas.Bool.{and_parts, or_parts, cases_eq, eqb-true, ltb-false, not-false}
use Rattle.std.proofs.lemmas.Bool.Decides.{nat_tests}
use Rattle.wire.specs.Fields.{short_at, field_at, short_bytes, field_bytes}
use Rattle.wire.specs.Flags.{word_count, canonical_word, canonical_words}
use Rattle.wire.proofs.Back.{canonical_words_same}
use Rattle.wire.proofs.Lengths.{canonical_words_at}
use Rattle.wire.proofs.Words.{canonical_twice}
use Rattle.wire.specs.Ranges.{packet_in_range}
use Rattle.wire.specs.Encoding.{hack_words, body_bytes, header_bytes, encode, type_of, six_bytes}
use Rattle.wire.specs.Decoding.{type_at, expected_length, lengths_by_type, bodies_by_type, counts_agree, hack_counts_agree, hack_at, header_wrong, type_wrong, body_at, packet_at, decode}
use Rattle.wire.specs.Laws.{canonical_packet, canonical_body}
use Rattle.wire.specs.declared.packet.Body.{Body}
use Rattle.wire.specs.declared.packet.Body.TheVariants.{Heartbeat, Hack as HackOf}
use Rattle.wire.specs.declared.packet.Message.{Message}
use Rattle.answer.specs.declared.Refusal.TheVariants.{ShortPacket, BadHeader, UnknownType, LengthMismatch, OutOfRange}

-- tests that were all passed
pub record Passed {X : Type 0} (t₁ t₂ t₃ t₄ g : Bool) (q p : X) : Type 0 where
  pub one : t₁ ≡ false
  pub two : t₂ ≡ false
  pub three : t₃ ≡ false
  pub four : t₄ ≡ false
  pub good : g ≡ true
  pub same : q ≡ p

passed : {X E : Type 0} (t₁ t₂ t₃ t₄ g : Bool) (e₁ e₂ e₃ e₄ e₅ : E) (q p : X) → cond t₁ (Err e₁) (cond t₂ (Err e₂) (cond t₃ (Err e₃) (cond t₄ (Err e₄) (cond g (Ok q) (Err e₅))))) ≡ Ok p → Passed t₁ t₂ t₃ t₄ g q p
passed true t₂ t₃ t₄ g e₁ e₂ e₃ e₄ e₅ q p h = grind arith
passed false true t₃ t₄ g e₁ e₂ e₃ e₄ e₅ q p h = grind arith
passed false false true t₄ g e₁ e₂ e₃ e₄ e₅ q p h = grind arith
passed false false false true g e₁ e₂ e₃ e₄ e₅ q p h = grind arith
passed false false false false true e₁ e₂ e₃ e₄ e₅ q p h = record { one = refl; two = refl; three = refl; four = refl; good = refl; same = grind arith }
passed false false false false false e₁ e₂ e₃ e₄ e₅ q p h = grind arith

-- the tests of `decode`, for bytes that it takes
pub taken : (b : List ℕ) (p : Message (List ℕ)) → decode b ≡ Ok p
    → Passed (ltb (length b) 16) (header_wrong b) (type_wrong b) (not (eqb (length b) (expected_length b))) (counts_agree b && packet_in_range (packet_at b)) (packet_at b) p
taken b p h = passed (ltb (length b) 16) (header_wrong b) (type_wrong b) (not (eqb (length b) (expected_length b))) (counts_agree b && packet_in_range (packet_at b)) ShortPacket BadHeader UnknownType LengthMismatch OutOfRange (packet_at b) p h

-- a fact at each of thirteen numbers
thirteen : (P : ℕ → Type 0) → P 1 → P 2 → P 3 → P 4 → P 5 → P 6 → P 7 → P 8 → P 9 → P 10 → P 11 → P 12 → P 13 → (t : ℕ) → 0 < t → t ≤ 13 → P t
thirteen P a b c d e f g h i j k l m t low leading_ones =
    on 1 a (λ n₁. on 2 b (λ n₂. on 3 c (λ n₃. on 4 d (λ n₄. on 5 e (λ n₅. on 6 f (λ n₆. on 7 g (λ n₇. on 8 h (λ n₈. on 9 i (λ n₉. on 10 j (λ n₁₀. on 11 k (λ n₁₁. on 12 l (λ n₁₂. on 13 m (λ n₁₃. absurd (omega arith))))))))))))))
  where
    on : (k : ℕ) → P k → ((t ≡ k → ⊥) → P t) → P t
    on k p q = ⊎_elim (λ e. subst P (sym e) p) q (cases_eq t k)

module _ (b : List ℕ) (bytes : (i : ℕ) → get_or b i 0 < 256) where
  short_again : (i : ℕ) → short_bytes (short_at b i) ≡ get_or b i 0 ∷ get_or b (i + 1) 0 ∷ []
  unfolding short_bytes short_at
  short_again i =
      let x = bytes i in
      let y = bytes (i + 1) in
      let p : (get_or b i 0 * 256 + get_or b (i + 1) 0) / 256 % 256 ≡ get_or b i 0 = omega arith in
      let q : (get_or b i 0 * 256 + get_or b (i + 1) 0) % 256 ≡ get_or b (i + 1) 0 = omega arith in
      λ j. p j ∷ q j ∷ []

  field_again : (i : ℕ) → field_bytes (field_at b i) ≡ get_or b i 0 ∷ get_or b (i + 1) 0 ∷ get_or b (i + 2) 0 ∷ get_or b (i + 3) 0 ∷ []
  unfolding field_bytes field_at
  field_again i =
      let x = bytes i in
      let y = bytes (i + 1) in
      let z = bytes (i + 2) in
      let w = bytes (i + 3) in
      let n = get_or b i 0 * 16777216 + get_or b (i + 1) 0 * 65536 + get_or b (i + 2) 0 * 256 + get_or b (i + 3) 0 in
      let p : n / 16777216 % 256 ≡ get_or b i 0 = omega arith in
      let q : n / 65536 % 256 ≡ get_or b (i + 1) 0 = omega arith in
      let r : n / 256 % 256 ≡ get_or b (i + 2) 0 = omega arith in
      let s : n % 256 ≡ get_or b (i + 3) 0 = omega arith in
      λ j. p j ∷ q j ∷ r j ∷ s j ∷ []

  -- the bytes from i on, a field first
  peel_short : (i j : ℕ) → i + 2 ≡ j → j ≤ length b → drop i b ≡ short_bytes (short_at b i) ++ drop j b
  peel_short i j e h =
      let k : i + 1 + 1 ≡ j = omega arith in
      drop_more b i 0 (omega arith) ∙ ap (λ l. get_or b i 0 ∷ l) (drop_more b (i + 1) 0 (omega arith) ∙ ap (λ n. get_or b (i + 1) 0 ∷ drop n b) k)
      ∙ ap (λ l. l ++ drop j b) (sym (short_again i))

  peel_field : (i j : ℕ) → i + 4 ≡ j → j ≤ length b → drop i b ≡ field_bytes (field_at b i) ++ drop j b
  peel_field i j e h =
      let two : i + 1 + 1 ≡ i + 2 = omega arith in
      let three : i + 2 + 1 ≡ i + 3 = omega arith in
      let four : i + 3 + 1 ≡ j = omega arith in
      drop_more b i 0 (omega arith)
      ∙ ap (λ l. get_or b i 0 ∷ l) (drop_more b (i + 1) 0 (omega arith) ∙ ap (λ n. get_or b (i + 1) 0 ∷ drop n b) two)
      ∙ ap (λ l. get_or b i 0 ∷ get_or b (i + 1) 0 ∷ l) (drop_more b (i + 2) 0 (omega arith) ∙ ap (λ n. get_or b (i + 2) 0 ∷ drop n b) three)
      ∙ ap (λ l. get_or b i 0 ∷ get_or b (i + 1) 0 ∷ get_or b (i + 2) 0 ∷ l) (drop_more b (i + 3) 0 (omega arith) ∙ ap (λ n. get_or b (i + 3) 0 ∷ drop n b) four)
      ∙ ap (λ l. l ++ drop j b) (sym (field_again i))

  -- the head, for bytes whose tests were passed and whose body has type t
  header_same : (x : Body (List ℕ)) → 16 ≤ length b → header_wrong b ≡ false → type_of x ≡ type_at b
      → header_bytes (record { tree = record { 0 = six_bytes b 2 }; stream = short_at b 8; writer = short_at b 10; addressee = short_at b 12; body = x }) ≡ take 16 b
  header_same x h w c =
      let e₀ : 32 ≡ get_or b 0 0 = grind (arith, nat_tests) in
      let e₁₄ : 0 ≡ get_or b 14 0 = grind (arith, nat_tests) in
      let e₁₅ : 0 ≡ get_or b 15 0 = grind (arith, nat_tests) in
      (λ i. e₀ i ∷ c i ∷ (six_bytes b 2 ++ (short_again 8 i ++ (short_again 10 i ++ (short_again 12 i ++ (e₁₄ i ∷ e₁₅ i ∷ []))))))
      ∙ sym (fill_by_all (λ i. get_or b i 0) (take 16 b) 16 0 (length-take-le 16 b h) (λ k l. get_or-take 16 b k 0 l))

  -- the body, by type
  Same : ℕ → Type 0
  Same t = length b ≡ get_or (lengths_by_type b) t 0 → (not (eqb t 3) || hack_counts_agree b) ≡ true
      → (type_of (get_or (bodies_by_type b) t (Heartbeat 0)) ≡ t) × (cond (eqb t 3) (take 38 b ++ flat_map field_bytes (hack_words (hack_at b))) b ≡ take 16 b ++ body_bytes (get_or (bodies_by_type b) t (Heartbeat 0)))

  four : length b ≡ 20 → b ≡ take 16 b ++ field_bytes (field_at b 16)
  four h = sym (take-append-drop 16 b) ∙ ap (λ l. take 16 b ++ l) (peel_field 16 20 refl (omega arith) ∙ ap (λ l. field_bytes (field_at b 16) ++ l) (drop_all 20 b (omega arith)) ∙ append-nil _)

  eight : length b ≡ 24 → b ≡ take 16 b ++ (field_bytes (field_at b 16) ++ field_bytes (field_at b 20))
  eight h = sym (take-append-drop 16 b) ∙ ap (λ l. take 16 b ++ l) (peel_field 16 20 refl (omega arith)
      ∙ ap (λ l. field_bytes (field_at b 16) ++ l) (peel_field 20 24 refl (omega arith) ∙ ap (λ l. field_bytes (field_at b 20) ++ l) (drop_all 24 b (omega arith)) ∙ append-nil _))

  ten : length b ≡ 26 → b ≡ take 16 b ++ (field_bytes (field_at b 16) ++ (field_bytes (field_at b 20) ++ short_bytes (short_at b 24)))
  ten h = sym (take-append-drop 16 b) ∙ ap (λ l. take 16 b ++ l) (peel_field 16 20 refl (omega arith)
      ∙ ap (λ l. field_bytes (field_at b 16) ++ l) (peel_field 20 24 refl (omega arith)
      ∙ ap (λ l. field_bytes (field_at b 20) ++ l) (peel_short 24 26 refl (omega arith) ∙ ap (λ l. short_bytes (short_at b 24) ++ l) (drop_all 26 b (omega arith)) ∙ append-nil _)))

  payload : length b ≡ 22 + short_at b 20 → b ≡ take 16 b ++ (field_bytes (field_at b 16) ++ (short_bytes (length (drop 22 b)) ++ drop 22 b))
  payload h =
      let long : short_at b 20 ≡ length (drop 22 b) = omega (arith, length-drop 22 b) in
      sym (take-append-drop 16 b) ∙ ap (λ l. take 16 b ++ l) (peel_field 16 20 refl (omega arith)
      ∙ ap (λ l. field_bytes (field_at b 16) ++ l) (peel_short 20 22 refl (omega arith) ∙ ap (λ n. short_bytes n ++ drop 22 b) long))

  hack : length b ≡ 38 + 4 * short_at b 36 → hack_counts_agree b ≡ true → take 38 b ++ flat_map field_bytes (hack_words (hack_at b)) ≡ take 16 b ++ body_bytes (get_or (bodies_by_type b) 3 (Heartbeat 0))
  unfolding short_bytes field_bytes
  hack h a =
      let t = field_at b 16 in
      let s = field_at b 20 in
      let l = field_at b 24 in
      let u = field_at b 28 in
      let stable = field_at b 32 in
      let count = short_at b 36 in
      let e = and_parts (eqb stable (l - 1)) (eqb count (word_count l u)) a in
      let e₃₂ : stable ≡ l - 1 = eqb-true stable (l - 1) e.0 in
      let e₃₆ : count ≡ word_count l u = eqb-true count (word_count l u) e.1 in
      let fields = field_bytes t ++ (field_bytes s ++ (field_bytes l ++ (field_bytes u ++ (field_bytes stable ++ short_bytes count)))) in
      let ws = flat_map field_bytes (hack_words (hack_at b)) in
      let parts : drop 16 b ≡ fields ++ drop 38 b =
      peel_field 16 20 refl (omega arith) ∙ ap (λ r. field_bytes t ++ r) (peel_field 20 24 refl (omega arith) ∙ ap (λ r. field_bytes s ++ r) (peel_field 24 28 refl (omega arith)
      ∙ ap (λ r. field_bytes l ++ r) (peel_field 28 32 refl (omega arith) ∙ ap (λ r. field_bytes u ++ r) (peel_field 32 36 refl (omega arith) ∙ ap (λ r. field_bytes stable ++ r) (peel_short 36 38 refl (omega arith)))))) in
      let cut : b ≡ (take 16 b ++ fields) ++ drop 38 b = sym (take-append-drop 16 b) ∙ ap (λ r. take 16 b ++ r) parts ∙ sym (append_assoc (take 16 b) fields (drop 38 b)) in
      let long : length (take 16 b ++ fields) ≡ 38 = length-append (take 16 b) fields ∙ ap (λ n. n + 22) (length-take-le 16 b (omega arith)) in
      let front : take 38 b ≡ take 16 b ++ fields = ap (take 38) cut ∙ take_at (take 16 b ++ fields) (drop 38 b) 38 long in
      ap (λ r. r ++ ws) front ∙ append_assoc (take 16 b) fields ws
      ∙ (λ i. take 16 b ++ (field_bytes t ++ (field_bytes s ++ (field_bytes l ++ (field_bytes u ++ (field_bytes (e₃₂ i) ++ (short_bytes (e₃₆ i) ++ ws)))))))

  same : (t : ℕ) → 0 < t → t ≤ 13 → Same t
  unfolding Same
  same = thirteen Same
      (λ h _. (refl, payload h)) (λ h _. (refl, payload h)) (λ h a. (refl, hack h a)) (λ h _. (refl, four h)) (λ h _. (refl, four h)) (λ h _. (refl, ten h)) (λ h _. (refl, four h))
      (λ h _. (refl, four h)) (λ h _. (refl, four h)) (λ h _. (refl, four h)) (λ h _. (refl, four h)) (λ h _. (refl, eight h)) (λ h _. (refl, four h))

-- bytes with the flags outside LSN to HSN set as a writer sets them
abbrev pub canonical_bytes : List ℕ → List ℕ
canonical_bytes b = cond (eqb (type_at b) 3) (take 38 b ++ flat_map field_bytes (hack_words (hack_at b))) b

pub writes_back : (b : List ℕ) (p : Message (List ℕ)) → ((i : ℕ) → get_or b i 0 < 256) → decode b ≡ Ok p → encode p ≡ canonical_bytes b
unfolding Same
writes_back b p bytes h =
    let t = taken b p h in
    let low : 16 ≤ length b = ltb-false (length b) 16 t.one in
    let long : length b ≡ expected_length b = eqb-true (length b) (expected_length b) (not-false _ t.four) in
    let kind = or_parts (eqb (type_at b) 0) (ltb 13 (type_at b)) t.three in
    let some : 0 < type_at b = grind (arith, nat_tests) in
    let most : type_at b ≤ 13 = grind (arith, nat_tests) in
    let s = same b bytes (type_at b) some most long (and_parts (counts_agree b) (packet_in_range (packet_at b)) t.good).0 in
    ap encode (sym t.same) ∙ ap (λ l. l ++ body_bytes (body_at b)) (header_same b bytes (body_at b) low t.two s.0) ∙ sym s.1

canonical_words_twice : (lsn hsn : ℕ) (f : ℕ → ℕ) → canonical_words lsn hsn (λ i. get_or (canonical_words lsn hsn f) i 0) ≡ canonical_words lsn hsn f
canonical_words_twice lsn hsn f = canonical_words_same lsn hsn (λ i. get_or (canonical_words lsn hsn f) i 0) f (λ i l. ap (canonical_word lsn hsn i) (canonical_words_at lsn hsn f i l) ∙ canonical_twice lsn hsn i (f i))

-- what is read has its flags set as a writer sets them
pub reads_canonical : (b : List ℕ) (p : Message (List ℕ)) → decode b ≡ Ok p → canonical_packet p ≡ p
reads_canonical b p h =
    let t = taken b p h in
    let kind = or_parts (eqb (type_at b) 0) (ltb 13 (type_at b)) t.three in
    let some : 0 < type_at b = grind (arith, nat_tests) in
    let most : type_at b ≤ 13 = grind (arith, nat_tests) in
    let body : canonical_body (body_at b) ≡ body_at b =
    thirteen (λ k. canonical_body (get_or (bodies_by_type b) k (Heartbeat 0)) ≡ get_or (bodies_by_type b) k (Heartbeat 0)) refl refl
    (λ i. HackOf (record { term = field_at b 16; serial = field_at b 20; lsn = field_at b 24; hsn = field_at b 28; flags = canonical_words_twice (field_at b 24) (field_at b 28) (λ i. field_at b (38 + 4 * i)) i }))
    refl refl refl refl refl refl refl refl refl refl (type_at b) some most in
    ap canonical_packet (sym t.same) ∙ (λ i. record { tree = (packet_at b).tree; stream = (packet_at b).stream; writer = (packet_at b).writer; addressee = (packet_at b).addressee; body = body i }) ∙ t.same
