-- Small arenas, computed: the record of a type written on a page, and nodes made. The words are those of `Arenas`.
use Rattle.std.specs.Prelude.{◌≡◌, refl, [], ◌∷◌, ◌++◌}
use Rattle.meter.specs.Meter.{halt, done, broken, full, ◌>>=◌, reading}
use Rattle.unification.specs.Arena.{resolve, free, power, pair}
use Rattle.unification.specs.Make.{build}
use Rattle.unification.specs.Put.{put, room, put_node}
use Rattle.unification.specs.Arenas.{int, member_bound}

-- the power of ℤ on a page of six bytes, from place 2 on; a page too short
written : put member_bound 4 (1 ∷ 2 ∷ 3 ∷ 4 ∷ 5 ∷ 6 ∷ [], 2, 3) 5 ≡ done (4, 1 ∷ 2 ∷ 0x43 ∷ 0x41 ∷ 5 ∷ 6 ∷ []) 2
unfolding put room ◌>>=◌ reading resolve put_node
written = refl

too_short : put member_bound 4 (1 ∷ 2 ∷ 3 ∷ [], 2, 3) 5 ≡ halt full (1 ∷ 2 ∷ 0x43 ∷ [])
unfolding put room ◌>>=◌ reading resolve put_node
too_short = refl

-- making: the next node; no room for three words; a part that is no node
made-next : build (int ++ (9 ∷ 9 ∷ 9 ∷ 9 ∷ [])) 1 (power 0) 0 ≡ done (1, int ++ (0x43 ∷ 0 ∷ 0 ∷ 9 ∷ [])) 0
unfolding build
made-next = refl

made_full : build (int ++ (9 ∷ 9 ∷ [])) 1 free 0 ≡ halt full (int ++ (9 ∷ 9 ∷ []))
unfolding build
made_full = refl

made_broken : build (int ++ (9 ∷ 9 ∷ 9 ∷ [])) 1 (pair 0 1) 0 ≡ halt broken (int ++ (9 ∷ 9 ∷ 9 ∷ []))
unfolding build
made_broken = refl
