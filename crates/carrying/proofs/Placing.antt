-- Words that carry their nodes: what can be read off them, and how their nodes are numbered in one pass. Assumes nothing.
use Prim.Native.Nat.{ℕ, ◌+◌, ◌-◌, ◌*◌, ◌/◌, ◌%◌, ◌≤◌, ◌<◌}
use mathlib.Core.Path.{◌≡◌, refl, sym, ap, ap₂, ◌∙◌}
use mathlib.Core.Logic.{◌⊎◌, inl, inr}
use native.Mathlib.Omega.{arith}
use Rattle.words.proofs.Cases.{less, same, more, tri}
use Rattle.words.proofs.Stores.{Updated}
use Rattle.diagram.specs.Reading.{turn, record_of}
use Rattle.diagram.proofs.Edges.{turn_inj, turn_lt}
use Rattle.numbering.specs.Renewal.{normal}
use Rattle.numbering.proofs.Images.{turn_self}
use Rattle.sorting.specs.Sorting.{Ascending, Strict, Among}
use Rattle.carrying.specs.Words.{key_of, keyed, carry, Carries, Carrying, Places, Placed}

-- different edges have a key above 0
key_some : (t e : ℕ) → (t ≡ e → ⊥) → 0 < key_of t e
unfolding key_of
key_some t e n = elim (tri 0 (turn (t % 2) e)) [
  | less q ↦ omega arith
  | same q ↦ elim (tri 0 (t / 2)) [
    | less m ↦ omega arith
    | same m ↦ absurd (n (turn_inj (t % 2) t e (omega (arith, turn_self t))))
    | more m ↦ absurd (omega arith)
  ]
  | more q ↦ absurd (omega arith)
]

-- a word that carries node i, with edges t and e
module _ (t e i : ℕ) (t-low : t < 131072) (e-low : e < 131072) (i-low : i < 65536) where
  turned : turn (t % 2) e < 131072
  turned = turn_lt (t % 2) e 65536 e-low

  key_low : key_of t e < 8589934592
  unfolding key_of
  key_low = omega (arith, turned)

  carry_key : carry t e i / 131072 ≡ key_of t e
  unfolding carry
  carry_key = omega arith

  -- the flag, the node and the record can be read off
  pub carry_flag : carry t e i / 65536 % 2 ≡ t % 2
  unfolding carry
  carry_flag = omega arith

  pub carry_node : carry t e i % 65536 ≡ i
  unfolding carry
  carry_node = omega arith

  pub carry_record : (h : ℕ) → keyed h (carry t e i / 131072) ≡ normal h t e
  unfolding keyed normal key_of
  carry_record h =
      let k = carry_key in
      ap₂ (record_of h) (omega (arith, turned)) (omega (arith, turned))

  pub carry_carries : (P : ℕ) → i < P → (t ≡ e → ⊥) → Carries P (carry t e i)
  unfolding carry
  carry_carries P l n = record { fits = omega (arith, key_low); some = omega (arith, carry_key, key_some t e n); inside = omega (arith, carry_node) }

-- records are in the order of their keys
keyed_rises : (h a b : ℕ) → a < b → keyed h a < keyed h b
unfolding keyed record_of
keyed_rises h a b l = omega arith

-- the nodes of the words before k have their numbers: the records are words c to r - 1, the last of them that of the key `last`; the other words wait
pub record Placing (Z W : ℕ → ℕ) (P c end h r last k : ℕ) : Type 0 where
  pub to : k ≤ end
  pub placed : Placed Z W P c k h r
  pub waits : (j : ℕ) → k ≤ j → j < end → W j ≡ Z j
  pub ahead : (j : ℕ) → k ≤ j → j < end → last ≤ Z j / 131072
  pub latest : c < r → W (r - 1) ≡ keyed h last
  pub some : 0 < last → c < r

module _ (Z : ℕ → ℕ) (P c end h : ℕ) (C : Carrying Z P c end) where
  pub placing_first : Placing Z Z P c end h c 0 c
  unfolding Strict
  placing_first = record {
    to = C.from;
    placed = record {
      from = omega arith;
      to = omega arith;
      strict = λ i j l m n. absurd (omega arith);
      came = λ k l m. absurd (omega arith);
      given = λ j l m. absurd (omega arith);
      before = λ k l. refl;
      others = λ k l n. refl;
    };
    waits = λ j l m. refl;
    ahead = λ j l m. omega arith;
    latest = λ l. absurd (omega arith);
    some = λ l. absurd (omega arith);
  }

  -- a turn: word k, and where the records end with its own
  module _ (W : ℕ → ℕ) (r last k : ℕ) (K : Placing Z W P c end h r last k) (turn : k < end) (word : ℕ) (word_is : word ≡ W k) where
    abbrev key : ℕ
    key = word / 131072

    from : c ≤ k
    from = omega (arith, K.placed.from, K.placed.to)

    is : word ≡ Z k
    is = word_is ∙ K.waits k (omega arith) turn

    pub turn_carries : Carries P word
    turn_carries = rw is (C.carries k from turn)

    module _ (r' : ℕ) (came : ((last < key) × (r' ≡ r + 1)) ⊎ ((key ≤ last) × (r' ≡ r))) where
      pub turn_room : (c < r') × (r' ≤ k + 1) × (r ≤ r')
      turn_room = elim came [
        | inl q ↦ (omega (arith, q.1, K.placed.from), omega (arith, q.1, K.placed.to), omega (arith, q.1))
        | inr q ↦ (omega (arith, q.1, K.some (omega (arith, q.0, turn_carries.some))), omega (arith, q.1, K.placed.to), omega (arith, q.1))
      ]

      -- its record is stored, and then its node's number
      module _ (X W' : ℕ → ℕ) (U : Updated W X (r' - 1) (keyed h key)) (N : Updated X W' (P + word % 65536) (2 * r' + word / 65536 % 2)) where
        low : r' ≤ P
        low = omega (arith, turn_room.1, C.to)

        here : W' (r' - 1) ≡ keyed h key
        here = N.other (r' - 1) (λ q. omega (arith, low, turn_room.0)) ∙ U.here

        other : (j : ℕ) → (j ≡ r' - 1 → ⊥) → (j ≡ P + word % 65536 → ⊥) → W' j ≡ W j
        other j m n = N.other j n ∙ U.other j m

        -- the records stay: it may be the last of them again
        stays : (m : ℕ) → m < r → W' m ≡ W m
        stays m l = elim came [
          | inl q ↦ other m (λ e. omega (arith, q.1)) (λ e. omega (arith, low, turn_room.2))
          | inr q ↦ elim (tri m (r' - 1)) [
            | less n ↦ other m (λ e. omega arith) (λ e. omega (arith, low))
            | same n ↦ let e : key ≡ last = omega (arith, q.0, K.ahead k (omega arith) turn, is) in
                let z : m ≡ r - 1 = omega (arith, n, q.1) in
                ap W' n ∙ here ∙ ap (keyed h) e ∙ sym (K.latest (omega (arith, turn_room.0, q.1))) ∙ ap W (sym z)
            | more n ↦ absurd (omega (arith, q.1))
          ]
        ]

        -- it comes after them
        under : (i : ℕ) → c ≤ i → i < r → W i ≤ keyed h last
        unfolding Strict
        under i l m = elim (tri i (r - 1)) [
          | less q ↦ omega (arith, K.placed.strict i (r - 1) l q (omega arith), K.latest (omega arith))
          | same q ↦ omega (arith, ap W q, K.latest (omega arith))
          | more q ↦ absurd (omega arith)
        ]

        strict : Strict W' c r'
        unfolding Strict
        strict i j l m n = elim (tri j r) [
          | less q ↦ omega (arith, stays i (omega arith), stays j q, K.placed.strict i j l m q)
          | same q ↦ last_one i j l m n (omega arith)
          | more q ↦ last_one i j l m n (omega arith)
        ]
          where
            last_one : (i j : ℕ) → c ≤ i → i < j → j < r' → r ≤ j → W' i < W' j
            last_one i j l m n o = elim came [
              | inl q ↦ let e : j ≡ r' - 1 = omega (arith, q.1) in
                  omega (arith, q.1, ap W' e, here, stays i (omega (arith, q.1)), under i l (omega (arith, q.1)), keyed_rises h last key q.0)
              | inr q ↦ absurd (omega (arith, q.1))
            ]

        this : Places W' P c h r' (Z k)
        this = rw (← is) (record {
          at = r' - 1;
          from = omega (arith, turn_room.0);
          to = omega (arith, turn_room.0);
          makes = here;
          number = omega (arith, N.here, turn_room.0);
        })

        given : (j : ℕ) → c ≤ j → j < k → Places W' P c h r' (Z j)
        given j l m = elim (tri (Z j % 65536) (word % 65536)) [
          | less q ↦ away (λ e. omega arith)
          | same q ↦ let e : Z j ≡ Z k = C.once j k l (omega arith) from turn (q ∙ ap (λ (x : ℕ). x % 65536) is) in rw e this
          | more q ↦ away (λ e. omega arith)
        ]
          where
            away : (Z j % 65536 ≡ word % 65536 → ⊥) → Places W' P c h r' (Z j)
            away n =
                let g = K.placed.given j l m in
                record {
                  at = g.at;
                  from = g.from;
                  to = omega (arith, g.to, turn_room.2);
                  makes = stays g.at g.to ∙ g.makes;
                  number = other (P + Z j % 65536) (λ e. omega (arith, low, turn_room.0)) (λ e. n (omega arith)) ∙ g.number;
                }

        abbrev Comes : ℕ → Type 0
        Comes x = Among (λ j. keyed h (Z j / 131072)) c (k + 1) x

        comes : (m : ℕ) → c ≤ m → m < r' → Comes (W' m)
        comes m a b = elim (tri m r) [
          | less q ↦ let o = K.placed.came m a q in record { at = o.at; from = o.from; to = omega (arith, o.to); is = o.is ∙ sym (stays m q) }
          | same q ↦ new m b (omega arith)
          | more q ↦ new m b (omega arith)
        ]
          where
            new : (m : ℕ) → m < r' → r ≤ m → Comes (W' m)
            new m b a =
                let e : m ≡ r' - 1 = elim came [ inl q ↦ omega (arith, q.1) | inr q ↦ absurd (omega (arith, q.1)) ] in
                record { at = k; from = from; to = omega arith; is = ap (λ (x : ℕ). keyed h (x / 131072)) (sym is) ∙ sym here ∙ ap W' (sym e) }

        pub placing_next : Placing Z W' P c end h r' key (k + 1)
        unfolding Ascending
        placing_next = record {
          to = omega arith;
          placed = record {
            from = omega (arith, turn_room.0);
            to = turn_room.1;
            strict = strict;
            came = comes;
            given = λ j l m. elim (tri j k) [
              | less q ↦ given j l q
              | same q ↦ rw q this
              | more q ↦ absurd (omega arith)
            ];
            before = λ m l. stays m (omega (arith, K.placed.from)) ∙ K.placed.before m l;
            others = λ m l n. other m (λ e. omega (arith, low, turn_room.0)) (λ e. n k from (omega arith) (e ∙ ap (λ (x : ℕ). P + x % 65536) is))
                ∙ K.placed.others m l (λ j a b. n j a (omega arith));
          };
          waits = λ j l m. other j (λ e. omega (arith, turn_room.1)) (λ e. omega (arith, C.to)) ∙ K.waits j (omega arith) m;
          ahead = λ j l m. omega (arith, is, C.ascending k j from (omega arith) m);
          latest = λ l. here;
          some = λ l. turn_room.0;
        }
