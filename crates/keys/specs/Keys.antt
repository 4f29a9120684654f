-- A set of keys in the words of lent memory, in order of insertion: key i is word i, and a hash table (open addressing) finds it. Of P places a region, words 0 to P - 1 are the keys and words 2 P to 3 P - 1 the slots. Assumes nothing.
use Rattle.std.specs.Prelude.{ℕ, zero, suc, ◌+◌, ◌-◌, ◌*◌, ◌/◌, ◌%◌, ◌^◌, ◌≤◌, ◌<◌, ◌≡◌, cond, eqb, ltb, Result, Ok, Err}

-- a key's digits to the base 2 ^ 17, mixed: each times an odd number, in all below 2 ^ 64
unfoldable pub mixed : ℕ → ℕ
mixed key = key / 2 ^ 17 * 63951983890327 + key % 2 ^ 17 * 69500201327305

-- at how many slots a search may begin
unfoldable pub homes : ℕ → ℕ
homes P = cond (ltb P (2 ^ 32)) P (2 ^ 32)

-- a number below 2 ^ 32, scaled to them (with no division by P)
unfoldable pub scaled : ℕ → ℕ → ℕ
scaled P x = x * homes P / 2 ^ 32

-- the slot at which the search for a key begins, from its digits mixed: their bits 14 to 45 are spread evenly, whether the digits are small or large
unfoldable pub home : ℕ → ℕ → ℕ
home P mix = scaled P (mix / 2 ^ 14 % 2 ^ 32)

-- the stride by which it goes on, 1 or more: from their bits 0 to 31
unfoldable pub stride : ℕ → ℕ → ℕ
stride P mix = scaled P (mix % 2 ^ 32) + 1

-- the slot that lies d further on, the first one after the last
unfoldable pub further : ℕ → ℕ → ℕ → ℕ
further P s d = cond (ltb (s + d) P) (s + d) (s + d - P)

-- how many times the search goes on by the key's stride
unfoldable pub strides : ℕ → ℕ
strides P = cond (ltb P 1024) P 1024

-- slot number d of the search for a key: so many times by the key's stride (double hashing), then one by one, so that none is left out
unfoldable pub probe : ℕ → ℕ → ℕ → ℕ
probe P key zero = home P (mixed key)
probe P key (suc d) = further P (probe P key d) (cond (ltb d (strides P)) (stride P (mixed key)) 1)

-- its word
unfoldable pub slot_word : ℕ → ℕ → ℕ → ℕ
slot_word P key d = 2 * P + probe P key d

-- how many of the words f 0 to f (m - 1) are not 0
unfoldable pub taken_below : (ℕ → ℕ) → ℕ → ℕ
taken_below f zero = 0
taken_below f (suc m) = taken_below f m + cond (eqb (f m) 0) 0 1

-- the first d slots of the search for a key are taken
abbrev pub Taken : (ℕ → ℕ) → ℕ → ℕ → ℕ → Type 0
Taken W P key d = (c : ℕ) → c < d → W (slot_word P key c) ≡ 0 → ⊥

-- a slot holds index i, and the search for its key meets no free slot before it
pub record Placed (W : ℕ → ℕ) (P i : ℕ) : Type 0 where
  pub distance : ℕ
  pub near : distance < P + strides P
  pub holds : W (slot_word P (W i) distance) ≡ i + 1
  pub path : Taken W P (W i) distance

-- a set of `count` keys below 2 ^ 34: a slot holds 0 if it is free, or else 1 + the index of a key
pub record Keys (W : ℕ → ℕ) (P count : ℕ) : Type 0 where
  pub few : count ≤ P
  pub small : (i : ℕ) → i < count → W i < 2 ^ 34
  pub distinct : (i j : ℕ) → i < count → j < count → W i ≡ W j → i ≡ j
  pub placed : (i : ℕ) → i < count → Placed W P i
  pub held : (s : ℕ) → s < P → W (2 * P + s) ≤ count
  pub taken : taken_below (λ s. W (2 * P + s)) P ≡ count

-- the key is not in the set
abbrev pub Absent : (ℕ → ℕ) → ℕ → ℕ → Type 0
Absent W count key = (i : ℕ) → i < count → W i ≡ key → ⊥

-- the free slot to which the search for a key leads
pub record Open (W : ℕ → ℕ) (P key slot : ℕ) : Type 0 where
  pub distance : ℕ
  pub near : distance < P + strides P
  pub slot_is : slot ≡ probe P key distance
  pub free : W (2 * P + slot) ≡ 0
  pub path : Taken W P key distance

-- the index of a key, or, if it is not in the set, the slot at which its search ended, which is open to it if there is room
abbrev pub Searched : (ℕ → ℕ) → ℕ → ℕ → ℕ → Result ℕ ℕ → Type 0
Searched W P count key (Ok index) = (index < count) × (W index ≡ key)
Searched W P count key (Err slot) = Absent W count key × (count < P → Open W P key slot)

-- the set with one key more, the words of the other two regions and past the four as before
pub record Inserted (W W' : ℕ → ℕ) (P count key : ℕ) : Type 0 where
  pub keys : Keys W' P (count + 1)
  pub here : W' count ≡ key
  pub before : (i : ℕ) → i < 2 * P → (i ≡ count → ⊥) → W' i ≡ W i
  pub behind : (i : ℕ) → 3 * P ≤ i → W' i ≡ W i

-- the empty set, the words outside the slots as before
pub record Cleared (W W' : ℕ → ℕ) (P : ℕ) : Type 0 where
  pub keys : Keys W' P 0
  pub before : (i : ℕ) → i < 2 * P → W' i ≡ W i
  pub behind : (i : ℕ) → 3 * P ≤ i → W' i ≡ W i
