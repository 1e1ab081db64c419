-- Laws of text: digits, and text put behind text.
use mathlib.Core.Path.{◌≡◌, refl, sym, ap, subst, ◌∙◌}
use mathlib.Core.List.{List, [], ◌∷◌, ◌++◌, append-nil, append_assoc}
use Prim.Native.Nat.{ℕ, zero, suc, ◌+◌, ◌-◌, ◌/◌, ◌%◌, ◌^◌, ◌≤◌, ◌<◌}
use native.Mathlib.Nat.{pow-succ'}
use native.Mathlib.Decide.{dec_lt}
use native.Mathlib.Numerals.{add-one}
use native.Mathlib.Omega.{arith}
use borrow.Author.Tests.{lt-ltb, le-ltb}
use lib.ListN.{length, take, drop, length-take, length-drop, set, length-append, length-set}
use lib.Seq.{take-suc-set, drop-set-lt, drop-drop}
use borrow.Rule.Slice.PartMut.{put_mid, same_len_mid}
use Rattle.std.proofs.lemmas.Slice.{take-put_mid, drop-put_mid}
use Rattle.text.specs.Text.{digit, digits, decimal, Appended}

-- x + 1 digits are enough for x, and more change nothing
enough : (m n x : ℕ) → x ≤ m → x ≤ n → digits m x ≡ digits n x
unfolding digits
enough zero zero x p q = refl
enough zero (suc n) x p q = rw (lt-ltb x 10 (omega arith))
enough (suc m) zero x p q = rw (lt-ltb x 10 (omega arith))
enough (suc m) (suc n) x p q = go (enough m n (x / 10)) (dec_lt x 10) where
  go : (x / 10 ≤ m → x / 10 ≤ n → digits m (x / 10) ≡ digits n (x / 10)) → Dec (x < 10) → digits (suc m) x ≡ digits (suc n) x
  go tenth (yes l) = rw (lt-ltb x 10 l)
  go tenth (no l) = rw (le-ltb x 10 (omega arith)) (ap (λ ds. ds ++ digit (x % 10) ∷ []) (tenth (omega arith) (omega arith)))

-- a digit is written as itself
decimal_one : (x : ℕ) → x < 10 → decimal x ≡ digit x ∷ []
unfolding decimal digits
decimal_one zero h = refl
decimal_one (suc x) h = rw (lt-ltb (suc x) 10 h)

-- of a number from 10 on, the last digit stands behind those of its tenth
decimal_more : (x : ℕ) → 10 ≤ x → decimal x ≡ decimal (x / 10) ++ digit (x % 10) ∷ []
unfolding decimal digits
decimal_more zero h = absurd (omega arith)
decimal_more (suc x) h =
    rw (le-ltb (suc x) 10 h) (ap (λ ds. ds ++ digit (suc x % 10) ∷ []) (enough x (suc x / 10) (suc x / 10) (omega arith) (omega arith)))

pub size_one : (x : ℕ) → x < 10 → length (decimal x) ≡ 1
size_one x h = rw (decimal_one x h)

pub size_more : (x : ℕ) → 10 ≤ x → length (decimal x) ≡ length (decimal (x / 10)) + 1
size_more x h = rw (decimal_more x h, length-append)

-- a number below 10 ^ n has at most n digits
pub decimal_length : (n x : ℕ) → x < 10 ^ suc n → length (decimal x) ≤ suc n
decimal_length zero x h = omega (arith, size_one x h)
decimal_length (suc n) x h = go (decimal_length n (x / 10) (omega (arith, pow-succ' 10 (suc n)))) (dec_lt x 10) where
  go : length (decimal (x / 10)) ≤ suc n → Dec (x < 10) → length (decimal x) ≤ suc (suc n)
  go tenth (yes l) = omega (arith, size_one x l)
  go tenth (no l) = omega (arith, size_more x (omega arith))

-- so 20 bytes have room for one of 64 bits
pub number_fits : (size written x : ℕ) → written + 20 ≤ size → x < 2 ^ 64 → written + length (decimal x) ≤ size
number_fits size written x h l = omega (arith, decimal_length 19 x (omega arith))

-- nothing put behind it leaves the text
pub appended_none : (out : List ℕ) (written : ℕ) → written ≤ length out → Appended out written [] out written
appended_none out written h =
    record { reach = omega arith; room = h; says = sym (append-nil (take written out)); long = refl; stays = refl }

-- what is the same from n on is the same from any later place on
same_behind : (xs ys : List ℕ) (n m : ℕ) → n ≤ m → drop n xs ≡ drop n ys → drop m xs ≡ drop m ys
same_behind xs ys n m h e =
    let k : n + (m - n) ≡ m = omega arith in
    subst (λ (i : ℕ). drop i xs ≡ drop i ys) k (sym (drop-drop (m - n) n xs) ∙ ap (drop (m - n)) e ∙ drop-drop (m - n) n ys)

-- text, and then text behind it
pub appended_then : {out out' out'' : List ℕ} {written written' written'' : ℕ} {s t : List ℕ} →
    Appended out written s out' written' → Appended out' written' t out'' written'' → Appended out written (s ++ t) out'' written''
appended_then {out} {out'} {written = written} {written'} {written''} {s} {t} a b =
    record {
      reach = rw length-append (omega arith);
      room = b.room;
      says = b.says ∙ ap (λ xs. xs ++ t) a.says ∙ append_assoc (take written out) s t;
      long = b.long ∙ a.long;
      stays = b.stays ∙ same_behind out' out written' written'' (omega arith) a.stays;
    }

-- a byte stored behind the text
pub appended_byte : (out : List ℕ) (written byte : ℕ) → written < length out →
    Appended out written (byte ∷ []) (set out written byte) (written + 1)
appended_byte out written byte h =
    record {
      reach = refl;
      room = rw length-set (omega arith);
      says = rw add-one (take-suc-set out written byte h);
      long = length-set out written byte;
      stays = drop-set-lt (written + 1) out written byte (omega arith);
    }

-- text written over the k bytes behind it, as many as it has
pub appended_part : (out source : List ℕ) (n k : ℕ) → n + length source ≤ length out → k ≡ length source →
    Appended out n source (put_mid n k out source) (n + length source)
appended_part out source n k h e =
    let long : length (put_mid n k out source) ≡ length out =
    same_len_mid n k out source (sym (simp (length-take, length-drop) (omega arith))) in
    record {
      reach = refl;
      room = omega (arith, long);
      says = take-put_mid n k out source (n + length source) refl (omega arith);
      long = long;
      stays = drop-put_mid n k out source (n + length source) (omega arith) (omega arith) (sym e);
    }

-- one digit, and one digit behind the others
pub number_one : {out out' : List ℕ} {n n' x : ℕ} → x < 10 → Appended out n (digit x ∷ []) out' n' → Appended out n (decimal x) out' n'
number_one {x = x} h a = rw (decimal_one x h) a

pub number_more : {out out' out'' : List ℕ} {n n' n'' x : ℕ} → 10 ≤ x → Appended out n (decimal (x / 10)) out' n' →
    Appended out' n' (digit (x % 10) ∷ []) out'' n''
    → Appended out n (decimal x) out'' n''
number_more {x = x} h a b = rw (decimal_more x h) (appended_then a b)
