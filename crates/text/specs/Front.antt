-- Bytes with a part of them moved to their front. Assumes nothing.
use Rattle.std.specs.Prelude.{ℕ, ◌+◌, cond, List, ◌++◌, leb, drop, length, take}

-- the `count` bytes from `from` on stand first, and after them what stood there; all as it was where there are not so
-- many
unfoldable pub kept : ℕ → ℕ → List ℕ → List ℕ
kept from count bytes = cond (leb (from + count) (length bytes)) (take count (drop from bytes) ++ drop count bytes) bytes
