-- `programs::byte_of`: byte i of eight, of the word that holds it. Assumes nothing.
use Rattle.std.proofs.Common.{◌≡◌, ℕ, zero, suc, ◌+◌, ◌-◌, ◌/◌, ◌%◌, ◌^◌, ap, refl, ◌∙◌, slice_index_or, arith}
use Rattle.std.specs.Int.{bytes_high_first, byte_at}
use Rattle.std.specs.Option.{unwrap_or}
use Rattle.programs.specs.Laying.{byte_of}
use Rattle.programs.proofs.byte_of.Goals as goal

as_power : (j n : ℕ) → byte_at j n ≡ n / 256 ^ j % 256
as_power zero n = grind arith
as_power (suc j) n = refl

-- element r of k, with j after it
high_byte : (r j n k : ℕ) → k ≡ r + suc j → slice_index_or (bytes_high_first k n) r 0 ≡ byte_at j n
high_byte zero j n zero e = absurd (omega (arith, e))
high_byte (suc r) j n zero e = absurd (omega (arith, e))
high_byte zero j n (suc k) e = let same : k ≡ j = omega (arith, e) in ap (λ m. byte_at m n) same
high_byte (suc r) j n (suc k) e = let less : k ≡ r + suc j = omega (arith, e) in high_byte r j n k less

pub returns : goal.returns
unfolding byte_of
returns c =
    let r = c.args.i % 8 in
    let word = c.unwrap_or-word.ensures ∙ ap (λ o. unwrap_or o 0) c.copied.ensures ∙ c.get.ensures.lookup.4 (omega arith) 0 in
    let all : 8 ≡ r + suc (7 - r) = omega arith in
    ap (λ l. slice_index_or l r 0) c.to_be_bytes.ensures ∙ high_byte r (7 - r) _ 8 all ∙ as_power (7 - r) _ ∙ ap (λ w. w / 256 ^ (7 - r) % 256) word
