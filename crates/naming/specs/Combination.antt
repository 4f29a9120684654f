-- The setups that an operation on two tables names. Assumes nothing.
use Rattle.std.specs.Prelude.{ℕ, Bool, not, ◌&&◌, ◌||◌}
use Rattle.naming.specs.declared.Operation.{Operation}
use Rattle.naming.specs.declared.Operation.TheVariants.{Joined, Shared, Without}

-- whether a setup is named, by whether the first table permits it and whether the second does: joined, shared, or the first without the second
abbrev pub names : Operation → Bool → Bool → Bool
names Joined a b = a || b
names Shared a b = a && b
names Without a b = a && not b

-- the setups named, of those that P permits and those that Q permits
unfoldable pub combination : Operation → (ℕ → Bool) → (ℕ → Bool) → ℕ → Bool
combination op P Q x = names op (P x) (Q x)
