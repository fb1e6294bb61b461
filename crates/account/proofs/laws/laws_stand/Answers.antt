use Rattle.account.proofs.Answered.{joint_law, cents_law, given_law}
use Rattle.account.proofs.ByIsin.{by_isin_law}
use Rattle.account.proofs.Blocks.{worst_law, no_lines_law}
use Rattle.account.proofs.Cents.{cents_bound}
use Rattle.account.proofs.Checks.{enter_law, withdraw_law}
use Rattle.account.proofs.History.{history_law}
use Rattle.account.proofs.Joint.{joint_bound}
use Rattle.account.proofs.Lacking.{margin_answer_law}
use Rattle.account.proofs.Ordered.{isins_law}
use Rattle.account.proofs.SameLines.{same_lines_law}
use Rattle.account.proofs.laws.laws_stand.Goals as goal

pub returns : goal.returns
returns c =
    record {
      isins_law = isins_law;
      by_isin_law = by_isin_law;
      worst_law = worst_law;
      no_lines_law = no_lines_law;
      joint_bound = joint_bound;
      cents_bound = cents_bound;
      joint_law = joint_law;
      same_lines_law = same_lines_law;
      cents_law = cents_law;
      given_law = given_law;
      enter_law = enter_law;
      withdraw_law = withdraw_law;
      margin_answer_law = margin_answer_law;
      history_law = history_law;
    }
