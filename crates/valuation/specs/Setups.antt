-- The setting that a setup stands for.
use Rattle.std.specs.Prelude.{ℕ, ℤ}
use Rattle.market.specs.Contents.{Quotes}
use Rattle.account.specs.Settings.{Setting}
use Rattle.valuation.specs.declared.setup.Setup.{Setup}

-- a market with a curve and a netting rule, by what the two mean
abbrev pub setting_with : ℕ → (ℕ → ℤ) → (ℕ → ℕ → ℕ) → Quotes → Setting
setting_with reach rate charged m =
    record {
      today = m.today;
      next = m.next;
      prices = m.prices;
      percentages = m.percentages;
      reach = reach;
      rate = rate;
      charged = charged;
    }

-- the setting of a setup, by the meanings of its curve and rule
abbrev pub setting_of
    : {C N : Type 0} → (C → ℕ) → (C → ℕ → ℤ) → (N → ℕ → ℕ → ℕ) → Setup C N → Setting
setting_of reach rate charged s =
    setting_with (reach s.curve.now) (rate s.curve.now) (charged s.rule.now) s.market.now
