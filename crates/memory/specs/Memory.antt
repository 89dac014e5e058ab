-- Lent memory: what clearing it leaves. After this file a reader knows `cleared`: what stood before a place, then zeros to the end.
use Rattle.std.specs.Prelude.{ℕ, ◌-◌, List, ◌++◌, length, take, replicate}

-- what stands before a place stays, and zeros follow to the end
abbrev pub cleared : ℕ → List ℕ → List ℕ
cleared from l = take from l ++ replicate (length l - from) 0
