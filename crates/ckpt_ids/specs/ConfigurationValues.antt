-- The configuration that has the values of a `ConfigValues`.
use Rattle.ckpt_ids.specs.declared.config.ConfigValues.{ConfigValues}
use Rattle.ckpt_ids.specs.Configuration.{Configuration, configured}

abbrev pub configured_by : ConfigValues → Configuration
configured_by v = configured v.interval v.pause v.at_once v.timeout v.tolerable v.retained v.keep_on_cancel
