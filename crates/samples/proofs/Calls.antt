-- Demand 3 is not empty: the calls of the list keep part-write's promise, and they write both parts. Assumes nothing.
use Prim.Native.Nat.{ℕ}
use mathlib.Core.Path.{◌≡◌, refl, sym, ap, ◌∙◌}
use mathlib.Core.List.{List, Memᴰ}
use lib.Dec.{lit<, lit≤}
use lib.ListN.{length}
use Rattle.words.specs.Words.{bytes_of}
use Rattle.words.proofs.Laws.{length-bytes_of}
use Rattle.diagram.specs.Answer.{Answer, value, refusal}
use Rattle.tables.specs.Writing.{length_of, out_after}
use Rattle.tables.proofs.HandingOut.{front_written}
use Rattle.parts.specs.Operations.{part_writing}
use Rattle.parts.specs.Calls.{Call, Kept, Wrote}
use Rattle.parts.specs.Division.{Division}
use Rattle.parts.proofs.Dividing.{division}
use Rattle.samples.specs.Samples.{A, A₀, A₁, sheet}
use Rattle.samples.specs.Calls.{call, calls}
use Rattle.samples.proofs.PartsOfA.{A-accepted, part_0, part_1, part_1_short, part_2, places_short}

-- a call that came to what part-write answers keeps its promise
call_kept : (j m b : ℕ) (came : Answer (List ℕ)) → part_writing A 2 j (sheet m) b ≡ came → Kept A 2 (call j m b came)
unfolding call
call_kept j m b came e =
    let f : part_writing A 2 j (sheet m) (length (bytes_of b 0)) ≡ came = ap (part_writing A 2 j (sheet m)) (length-bytes_of b 0) ∙ e in
    record { answers = ap length_of (sym f); writes = ap (λ a. out_after a (bytes_of b 0)) (sym f); leaves = refl }

-- each call of the list
pub calls_kept : (c : Call) → Memᴰ c calls → Kept A 2 c
unfolding calls
calls_kept c (Memᴰ.head e) = rw e (call_kept 1 515 40 (value A₁) (part_1 515 40 (lit≤ tt) (lit≤ tt)))
calls_kept c (Memᴰ.tail (Memᴰ.head e)) = rw e (call_kept 0 515 48 (value A₀) (part_0 515 48 (lit≤ tt) (lit≤ tt)))
calls_kept c (Memᴰ.tail (Memᴰ.tail (Memᴰ.head e))) = rw e (call_kept 1 515 39 (refusal 11 0) (part_1_short 515 39 (lit≤ tt) (lit< tt)))
calls_kept c (Memᴰ.tail (Memᴰ.tail (Memᴰ.tail (Memᴰ.head e)))) = rw e (call_kept 2 515 48 (refusal 15 0) (part_2 515 48 (lit≤ tt)))
calls_kept c (Memᴰ.tail (Memᴰ.tail (Memᴰ.tail (Memᴰ.tail (Memᴰ.head e))))) = rw e (call_kept 0 514 48 (refusal 10 0) (places_short 514 48 0 (lit< tt)))
calls_kept c (Memᴰ.tail (Memᴰ.tail (Memᴰ.tail (Memᴰ.tail (Memᴰ.tail (Memᴰ.head e)))))) = rw e (call_kept 0 515 32 (value A₀) (part_0 515 32 (lit≤ tt) (lit≤ tt)))
calls_kept c (Memᴰ.tail (Memᴰ.tail (Memᴰ.tail (Memᴰ.tail (Memᴰ.tail (Memᴰ.tail e)))))) = elim e [ ]

-- so demand 3 holds of the list
pub A-divided : Division A 3 3 2 calls
A-divided = division A 3 3 2 A-accepted (lit< tt) (lit≤ tt) calls calls_kept

-- ... and both parts were written
pub wrote_0 : Wrote calls 0 A₀
unfolding calls call length_of
wrote_0 = record { call = call 0 515 48 (value A₀); listed = Memᴰ.tail (Memᴰ.head refl); index_is = refl; handed = record { count = length A₀; answered = refl; read = sym (front_written A₀ (bytes_of 48 0)) } }

pub wrote_1 : Wrote calls 1 A₁
unfolding calls call length_of
wrote_1 = record { call = call 1 515 40 (value A₁); listed = Memᴰ.head refl; index_is = refl; handed = record { count = length A₁; answered = refl; read = sym (front_written A₁ (bytes_of 40 0)) } }
