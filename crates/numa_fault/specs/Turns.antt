-- Taking turns, in numbers.
use Rattle.std.specs.Prelude.{ℕ, zero, suc, ◌-◌}

-- how many of the first n places fall to place w where so many take turns
abbrev pub share : ℕ → ℕ → ℕ → ℕ
share count w zero = 0
share count zero (suc n) = suc (share count (count - 1) n)
share count (suc w) (suc n) = share count w n

-- how many places it is until w's next turn, after n places
abbrev pub wait : ℕ → ℕ → ℕ → ℕ
wait count w zero = w
wait count zero (suc n) = wait count (count - 1) n
wait count (suc w) (suc n) = wait count w n
