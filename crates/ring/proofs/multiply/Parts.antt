-- Laws of lists of words in parts, and of products of their halves. Assumes nothing.
use mathlib.Core.Path.{◌≡◌, sym, ap, ap₂, ◌∙◌, fun_ext}
use mathlib.Core.Bool.{Bool, false}
use mathlib.Core.List.{List, ◌++◌, append-nil}
use Prim.Native.Nat.{ℕ, zero, ◌+◌, ◌-◌, ◌*◌, ◌/◌, ◌%◌, ◌^◌, ◌≤◌, ◌<◌}
use native.Mathlib.Nat.{mul_comm, mul_assoc}
use native.Mathlib.Decide.{dec_lt}
use native.Mathlib.Omega.{arith}
use borrow.Rule.Slice.PartMut.{put_mid, take_put}
use lib.Dec.{lit<}
use lib.ListN.{length, get_or, take, drop, replicate, length-append, length-drop, drop_of_length-le, get_or-append}
use lib.Pow.{pow-add}
use lib.Seq.{get_or-take, get_or-drop, length-take-le, take_all, take-append_seam, drop-append_seam, get_or-append-add}
use Rattle.hashing.specs.Lists.{bit_at, bits}
use Rattle.hashing.proofs.Words.{bit_zero, bits_at, bits_out, zero_at}
use Rattle.ring.specs.Polynomials.{Poly, InRing, flip, add}
use Rattle.ring.specs.inner.Wide.{shifted, wide}
use Rattle.ring.proofs.Packed.{bits-zeros}
use Rattle.ring.proofs.Parity.{flip_comm, flip_false}
use Rattle.ring.proofs.Ring.{ring_ext, add_assoc, add_in}
use Rattle.ring.proofs.Shifts.{shifted_zero, shifted_below, shifted_from, wide_in, karatsuba}
use Rattle.ring.proofs.multiply.Laws.{words_in}

-- the first n words, and those after them
module _ (n : ℕ) (x : List ℕ) where
  bits-take : (k : ℕ) → k < 64 * n → bits 64 (take n x) k ≡ bits 64 x k
  bits-take k h =
      bits_at 64 (take n x) (k / 64) (k % 64) (omega arith) (omega arith)
      ∙ ap (λ (v : ℕ). bit_at v (k % 64)) (get_or-take n x (k / 64) 0 (omega arith)) ∙ sym (bits_at 64 x (k / 64) (k % 64) (omega arith) (omega arith))

  take_in : n ≤ length x → InRing (64 * n) (bits 64 (take n x))
  take_in long = words_in n (take n x) (length-take-le n x long)

  bits-drop : (k : ℕ) → bits 64 (drop n x) k ≡ bits 64 x (64 * n + k)
  bits-drop k =
      bits_at 64 (drop n x) (k / 64) (k % 64) (omega arith) (omega arith)
      ∙ ap (λ (v : ℕ). bit_at v (k % 64)) (get_or-drop n x (k / 64) 0) ∙ sym (bits_at 64 x (n + k / 64) (k % 64) (omega arith) (omega arith))

  bits_parts : n ≤ length x → bits 64 x ≡ add (bits 64 (take n x)) (shifted (64 * n) (bits 64 (drop n x)))
  unfolding add
  bits_parts long = fun_ext (λ k. go k (dec_lt k (64 * n)))
    where
      go : (k : ℕ) → Dec (k < 64 * n) → bits 64 x k ≡ flip (bits 64 (take n x) k) (shifted (64 * n) (bits 64 (drop n x)) k)
      go k (yes below) =
          sym (ap₂ flip (bits-take k below) (shifted_below (64 * n) (bits 64 (drop n x)) k below) ∙ flip_false (bits 64 x k))
      go k (no from) =
          let back : 64 * n + (k - 64 * n) ≡ k = omega arith in
          sym (ap₂ flip (take_in long k (omega arith)) (shifted_from (64 * n) (bits 64 (drop n x)) k (omega arith) ∙ bits-drop (k - 64 * n))
          ∙ flip_comm false (bits 64 x (64 * n + (k - 64 * n))) ∙ flip_false (bits 64 x (64 * n + (k - 64 * n))) ∙ ap (bits 64 x) back)

  pub bits_front : n ≤ length x → InRing (64 * n) (bits 64 x) → bits 64 (take n x) ≡ bits 64 x
  bits_front long inside = ring_ext (64 * n) (take_in long) inside bits-take

  -- the words from there to the end
  pub rest : take (length x - n) (drop n x) ≡ drop n x
  rest = take_all (length x - n) (drop n x) (omega (arith, length-drop n x))

  -- two halves
  module _ (long : length x ≡ 2 * n) where
    pub front_long : length (take n x) ≡ n
    front_long = length-take-le n x (omega arith)

    pub back_long : length (drop n x) ≡ n
    back_long = omega (arith, length-drop n x)

    pub rest_long : length (take (length x - n) (drop n x)) ≡ n
    rest_long = ap length rest ∙ back_long

    sum_in : InRing (64 * n) (add (bits 64 (take n x)) (bits 64 (drop n x)))
    sum_in = add_in (64 * n) (take_in (omega arith)) (words_in n (drop n x) back_long)

-- what is added in the ring of n words is added to the first n
front_add : (n : ℕ) (x y : List ℕ) (p : Poly) → n ≤ length x → n ≤ length y → InRing (64 * n) p → bits 64 y ≡ add (bits 64 x) p
    → bits 64 (take n y) ≡ add (bits 64 (take n x)) p
unfolding add
front_add n x y p long-x long-y inside sum =
    ring_ext (64 * n) (take_in n y long-y) (add_in (64 * n) (take_in n x long-x) inside)
    (λ k below. bits-take n y k below ∙ ap (λ (q : Poly). q k) sum ∙ ap (λ (b : Bool). flip b (p k)) (sym (bits-take n x k below)))

-- x comes back to the front of z
pub front_is : (n : ℕ) (z x : List ℕ) → length x ≡ n → take n (x ++ drop n z) ≡ x
front_is n z x long = ap (λ (m : ℕ). take m (x ++ drop n z)) (sym long) ∙ take-append_seam x (drop n z)

-- where z is words of 0
pub front_back : (n all : ℕ) (z x : List ℕ) → z ≡ replicate all 0 → length x ≡ n → bits 64 (x ++ drop n z) ≡ bits 64 x
front_back n all z x none long = fun_ext (λ k. go k (dec_lt k (64 * n)))
  where
    at : (k : ℕ) → bits 64 (x ++ drop n z) k ≡ bit_at (get_or (x ++ drop n z) (k / 64) 0) (k % 64)
    at k = bits_at 64 (x ++ drop n z) (k / 64) (k % 64) (omega arith) (omega arith)

    go : (k : ℕ) → Dec (k < 64 * n) → bits 64 (x ++ drop n z) k ≡ bits 64 x k
    go k (yes below) =
        at k ∙ ap (λ (v : ℕ). bit_at v (k % 64)) (get_or-append x (drop n z) 0 (k / 64) (omega arith))
        ∙ sym (bits_at 64 x (k / 64) (k % 64) (omega arith) (omega arith))
    go k (no past) =
        let i = k / 64 - length x in
        let back : k / 64 ≡ length x + i = omega arith in
        at k
        ∙ ap (λ (v : ℕ). bit_at v (k % 64))
        (ap (λ (j : ℕ). get_or (x ++ drop n z) j 0) back ∙ get_or-append-add x (drop n z) i 0 ∙ get_or-drop n z i 0
        ∙ ap (λ (l : List ℕ). get_or l (n + i) 0) none ∙ zero_at all (n + i))
        ∙ bit_zero (k % 64) ∙ sym (words_in n x long k (omega arith))

-- the product of two leaves is copied to c
pub leaf_product : (n : ℕ) (b x c : List ℕ) (A : Poly) → length b ≡ n → length c ≡ 2 * n → 2 * n ≤ length x
    → ((i : ℕ) → i < length (take (2 * n) x) → get_or c (0 + i) 0 ≡ get_or (take (2 * n) x) i 0)
    → ((k : ℕ) → k < 128 * n → bits 64 x k ≡ wide (64 * n) A (bits 64 b) k) → bits 64 c ≡ wide (64 * n) A (bits 64 b)
leaf_product n b x c A long twice room copied product =
    ring_ext (128 * n) (λ k h. bits_out 64 c k (lit< tt) (omega arith))
    (λ k h. wide_in (64 * n) (64 * n) A (bits 64 b) (words_in n b long) k (omega arith))
    (λ k h.
    bits_at 64 c (0 + k / 64) (k % 64) (omega arith) (omega arith)
    ∙ ap (λ (v : ℕ). bit_at v (k % 64)) (copied (k / 64) (omega (arith, length-take-le (2 * n) x room)))
    ∙ sym (bits_at 64 (take (2 * n) x) (k / 64) (k % 64) (omega arith) (omega arith))
    ∙ bits-take (2 * n) x k (omega arith) ∙ product k h)

-- ---- halves

pub power-twice : (n d : ℕ) → zero < d → n * 2 ^ d ≡ 2 * (n * 2 ^ (d - 1))
power-twice n d pos =
    let back : d ≡ d - 1 + 1 = omega arith in
    ap (λ (d : ℕ). n * 2 ^ d) back ∙ ap (◌*◌ n) (pow-add 2 (d - 1) 1) ∙ sym (mul_assoc n (2 ^ (d - 1)) 2) ∙ mul_comm (n * 2 ^ (d - 1)) 2

-- the two halves of a are added to s
pub halves_added : (h : ℕ) (a s x y : List ℕ) → bits 64 x ≡ add (bits 64 s) (shifted 0 (bits 64 (take h a)))
    → bits 64 y ≡ add (bits 64 x) (shifted 0 (bits 64 (take (length a - h) (drop h a))))
    → bits 64 y ≡ add (add (bits 64 s) (bits 64 (take h a))) (bits 64 (drop h a))
halves_added h a s x y first second =
    second
    ∙ ap₂ add (first ∙ ap (add (bits 64 s)) (shifted_zero (bits 64 (take h a))))
    (shifted_zero (bits 64 (take (length a - h) (drop h a))) ∙ ap (bits 64) (rest h a))

-- to words of 0
pub halves_sum : (h n : ℕ) (a z x : List ℕ) → length a ≡ 2 * h → h ≤ length x → z ≡ replicate n 0
    → bits 64 x ≡ add (add (bits 64 z) (bits 64 (take h a))) (bits 64 (drop h a))
    → bits 64 (take h x) ≡ add (bits 64 (take h a)) (bits 64 (drop h a))
unfolding add
halves_sum h n a z x long room none all =
    let sum : bits 64 x ≡ add (bits 64 (take h a)) (bits 64 (drop h a)) =
    all ∙ ap (λ (p : Poly). add (add p (bits 64 (take h a))) (bits 64 (drop h a))) (ap (bits 64) none ∙ bits-zeros n) in
    bits_front h x room (rw sum (sum_in h a long)) ∙ sum

-- to the front of m, and that to c
pub joined : (h : ℕ) (c m m1 c1 : List ℕ) → length c ≡ 4 * h → 2 * h ≤ length m → length m1 ≡ length m
    → bits 64 m1 ≡ add (add (bits 64 m) (bits 64 (take (2 * h) c))) (bits 64 (drop (2 * h) c))
    → bits 64 c1 ≡ add (bits 64 c) (shifted (64 * h) (bits 64 (take (2 * h) m1)))
    → bits 64 c1 ≡ add (bits 64 c) (shifted (64 * h) (add (add (bits 64 (take (2 * h) m)) (bits 64 (take (2 * h) c))) (bits 64 (drop (2 * h) c))))
joined h c m m1 c1 long room same sums whole =
    whole ∙ ap (λ (p : Poly). add (bits 64 c) (shifted (64 * h) p))
    (front_add (2 * h) m m1 (add (bits 64 (take (2 * h) c)) (bits 64 (drop (2 * h) c))) room (omega arith) (sum_in (2 * h) c (omega arith))
    (sums ∙ add_assoc (bits 64 m) (bits 64 (take (2 * h) c)) (bits 64 (drop (2 * h) c)))
    ∙ sym (add_assoc (bits 64 (take (2 * h) m)) (bits 64 (take (2 * h) c)) (bits 64 (drop (2 * h) c))))

-- x comes back to the first half of c, and y to the other
pub replaced_long : (n : ℕ) (c x : List ℕ) → length c ≡ 2 * n → length x ≡ n → length (x ++ drop n c) ≡ 2 * n
replaced_long n c x long first = omega (arith, length-append x (drop n c), back_long n c long)

pub both_back : (n : ℕ) (c x y : List ℕ) → length c ≡ 2 * n → length x ≡ n
    → let d = put_mid n (length (x ++ drop n c) - n) (x ++ drop n c) y in (take n d ≡ x) × (drop n d ≡ y)
both_back n c x y long first = (
  take_put n (length d - n) d y (omega (arith, long_d)) ∙ front_is n c x first,
  ap (λ (m : ℕ). drop m (take n d ++ (y ++ drop (length d - n) (drop n d)))) (sym (length-take-le n d (omega (arith, long_d))))
      ∙ drop-append_seam (take n d) (y ++ drop (length d - n) (drop n d))
      ∙ ap (◌++◌ y) (drop_of_length-le (drop n d) {i = length d - n} (omega (arith, length-drop n d))) ∙ append-nil y,
)
  where
    d : List ℕ
    d = x ++ drop n c

    long_d : length d ≡ 2 * n
    long_d = replaced_long n c x long first

-- c has the products of the halves, one above the other; m, that of their sums, is joined to them
pub halves_product : (h : ℕ) (a b c c1 : List ℕ) (m : Poly) → length a ≡ 2 * h → length b ≡ 2 * h → length c ≡ 4 * h
    → bits 64 (take (2 * h) c) ≡ wide (64 * h) (bits 64 (take h a)) (bits 64 (take h b))
    → bits 64 (drop (2 * h) c) ≡ wide (64 * h) (bits 64 (drop h a)) (bits 64 (drop h b))
    → m ≡ wide (64 * h) (add (bits 64 (take h a)) (bits 64 (drop h a))) (add (bits 64 (take h b)) (bits 64 (drop h b)))
    → bits 64 c1 ≡ add (bits 64 c) (shifted (64 * h) (add (add m (bits 64 (take (2 * h) c))) (bits 64 (drop (2 * h) c))))
    → bits 64 c1 ≡ wide (64 * length a) (bits 64 a) (bits 64 b)
halves_product h a b c c1 m long_a long_b long_c low high mid whole =
    let twice : 64 * (2 * h) ≡ 64 * h + 64 * h = omega arith in
    let all : 64 * h + 64 * h ≡ 64 * length a = omega arith in
    whole
    ∙ ap₂ add
    (bits_parts (2 * h) c (omega arith) ∙ ap₂ add low (ap₂ shifted twice high))
    (ap (shifted (64 * h)) (ap₂ add (ap₂ add mid low) high))
    ∙ karatsuba (64 * h) (bits 64 (take h a)) (bits 64 (drop h a)) (bits 64 (take h b)) (bits 64 (drop h b)) (bits 64 a) (bits 64 b)
    (λ i less. sym (bits-take h a i less)) (λ i. sym (bits-drop h a i)) (bits_parts h b (omega arith))
    ∙ ap (λ (n : ℕ). wide n (bits 64 a) (bits 64 b)) all
