-- The tranches of residual life.
use Rattle.std.specs.Prelude.{ℕ, if◌then◌else◌, nat_le}
use Rattle.quantities.specs.declared.tranche.Tranche.{Tranche}
use Rattle.quantities.specs.declared.tranche.Tranche.TheVariants.{UpToOneYear, UpToThreeYears, UpToFiveYears, UpToTenYears, UpToTwentyYears, OverTwentyYears}

abbrev pub tranche_number : Tranche → ℕ
tranche_number UpToOneYear = 1
tranche_number UpToThreeYears = 2
tranche_number UpToFiveYears = 3
tranche_number UpToTenYears = 4
tranche_number UpToTwentyYears = 5
tranche_number OverTwentyYears = 6

-- the tranche of a residual life in days
abbrev pub tranche : ℕ → ℕ
tranche life =
    if nat_le life 365 then 1
    else (if nat_le life 1095 then 2
    else (if nat_le life 1825 then 3
    else (if nat_le life 3650 then 4
    else (if nat_le life 7300 then 5
    else 6))))
