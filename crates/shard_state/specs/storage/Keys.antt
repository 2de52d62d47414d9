-- The keys by which shards find what they keep of their vertices.
use Rattle.std.specs.Prelude.{ℕ, ◌+◌, ◌*◌, ◌/◌, nat_lt, if◌then◌else◌}

-- the first key that no table has
abbrev pub table_end : ℕ
table_end = 4194304

-- the key of a vertex, where there are so many shards: how many of its shard are below it, or the vertex itself where
-- that is past the table
abbrev pub key_of : ℕ → ℕ → ℕ
key_of shards v = if nat_lt v table_end then v / shards else v

-- the vertex of the shard of this number whose key it is
abbrev pub vertex_at : ℕ → ℕ → ℕ → ℕ
vertex_at number shards key = if nat_lt key table_end then key * shards + number else key
