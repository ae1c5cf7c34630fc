-- The rules, 'Plus signs': what the items SP, SS and S set.
-- Assumes nothing.
use Rattle.settings.specs.declared.SettingItem.{SettingItem}
use Rattle.settings.specs.declared.SettingItem.TheVariants.{SP, SS, S}
use Rattle.settings.specs.declared.SignSetting.{SignSetting}
use Rattle.settings.specs.declared.SignSetting.TheVariants.{AfterSS, AfterSP}
use Rattle.settings.specs.declared.Settings.{Settings}

-- 'After SP ..; after SS or S the rule above holds.'
abbrev pub setting_after : SettingItem → SignSetting
setting_after SP = AfterSP
setting_after SS = AfterSS
setting_after S = AfterSS

-- the settings after an item
abbrev pub set_by : SettingItem → Settings → Settings
set_by item g = record { signs = setting_after item }

-- 'The walk carries the setting, starts with SS'
abbrev pub start_settings : Settings
start_settings = record { signs = setting_after SS }
