use Rattle.lapd_side_recovery_laws.proofs.Recovers.{recovers}
use Rattle.lapd_side_recovery_laws.proofs.laws.links_of_two_sides_come_back_in_time.Goals as goal

pub returns : goal.returns
returns g = λ c id longest late t200 t203 n200 now low positive some user_long network_long
    user_most network_most user_window network_window i k come free moves premises quiet served
    enough. recovers c id longest late t200 t203 n200 now low positive some user_long network_long
    user_most network_most user_window network_window i k free moves premises quiet served enough
    come
