use Rattle.lapd_two_side_laws.proofs.SideAccounts.{network_accounts, user_accounts}
use Rattle.lapd_two_side_laws.proofs.accounts.every_message_is_accounted_for.Goals as goal

pub returns : goal.returns
returns c = record {
  network = λ config known before after id low few keeps.
      network_accounts config id low few known before after keeps;
  user = λ config fixed random before after id low few keeps.
      user_accounts config id low few fixed random before after keeps;
}
